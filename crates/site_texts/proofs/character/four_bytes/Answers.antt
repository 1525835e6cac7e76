use Rattle.site_texts.proofs.Common.{arith}
use Rattle.site_texts.proofs.Characters.{four_cut_1, four_cut_2, four_cut_3, four_whole}
use Rattle.site_texts.proofs.character.four_bytes.Goals as goal

pub returns-then-text-lt2 : goal.returns-then-text-lt2
returns-then-text-lt2 c = four_cut_1 c.args.text.now c.requires.some c.requires.least c.requires.most (λ more. absurd (omega arith))

pub returns-then-not-may_be_second : goal.returns-then-not-may_be_second
returns-then-not-may_be_second c = four_cut_1 c.args.text.now c.requires.some c.requires.least c.requires.most (λ more. cc)

pub returns-then-text-lt3 : goal.returns-then-text-lt3
returns-then-text-lt3 c = four_cut_2 c.args.text.now (omega arith) c.requires.least c.requires.most (cc) (λ more. absurd (omega arith))

pub returns-then-not-continues : goal.returns-then-not-continues
returns-then-not-continues c = four_cut_2 c.args.text.now (omega arith) c.requires.least c.requires.most (cc) (λ more. cc)

pub returns-then-text-lt4 : goal.returns-then-text-lt4
returns-then-text-lt4 c = four_cut_3 c.args.text.now (omega arith) c.requires.least c.requires.most (cc) (cc) (λ more. absurd (omega arith))

pub returns-then-not-continues-2 : goal.returns-then-not-continues-2
returns-then-not-continues-2 c = four_cut_3 c.args.text.now (omega arith) c.requires.least c.requires.most (cc) (cc) (λ more. cc)

pub returns : goal.returns
returns c = four_whole c.args.text.now (omega arith) c.requires.least c.requires.most (cc) (cc) (cc)
