use Rattle.site_texts.proofs.Common.{arith}
use Rattle.site_texts.proofs.Characters.{two_cut, two_whole}
use Rattle.site_texts.proofs.character.two_bytes.Goals as goal

pub returns-then-text-lt2 : goal.returns-then-text-lt2
returns-then-text-lt2 c = two_cut c.args.text.now c.requires.some c.requires.least c.requires.most (λ more. absurd (omega arith))

pub returns-then-not-continues : goal.returns-then-not-continues
returns-then-not-continues c = two_cut c.args.text.now c.requires.some c.requires.least c.requires.most (λ more. cc)

pub returns : goal.returns
returns c = two_whole c.args.text.now c.requires.least c.requires.most (omega arith) (cc)
