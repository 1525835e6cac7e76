use Rattle.site_texts.proofs.Common.{arith}
use Rattle.site_texts.proofs.Characters.{three_cut_1, three_cut_2, three_whole}
use Rattle.site_texts.proofs.character.three_bytes.Goals as goal

pub returns-then-text-lt2 : goal.returns-then-text-lt2
returns-then-text-lt2 c = three_cut_1 c.args.text.now c.requires.some c.requires.least c.requires.most (λ more. absurd (omega arith))

pub returns-then-not-may_be_second : goal.returns-then-not-may_be_second
returns-then-not-may_be_second c = three_cut_1 c.args.text.now c.requires.some c.requires.least c.requires.most (λ more. cc)

pub returns-then-text-lt3 : goal.returns-then-text-lt3
returns-then-text-lt3 c = three_cut_2 c.args.text.now (omega arith) c.requires.least c.requires.most (cc) (λ more. absurd (omega arith))

pub returns-then-not-continues : goal.returns-then-not-continues
returns-then-not-continues c = three_cut_2 c.args.text.now (omega arith) c.requires.least c.requires.most (cc) (λ more. cc)

pub returns : goal.returns
returns c = three_whole c.args.text.now (omega arith) c.requires.least c.requires.most (cc) (cc)
