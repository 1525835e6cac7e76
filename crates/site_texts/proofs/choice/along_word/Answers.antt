use Rattle.site_texts.proofs.Common.{arith}
use Rattle.site_texts.proofs.Choosing.{along_fails, along_is, end_is_no_blank}
use Rattle.site_texts.proofs.choice.along_word.Goals as goal

pub returns-then-same-word : goal.returns-then-same-word
returns-then-same-word c = along_fails c.args.word.now c.args.text.now c.same_front-same.result c.same_front-same.ensures (λ all. absurd (omega arith))

pub returns-then-same-text : goal.returns-then-same-text
returns-then-same-text c = along_fails c.args.word.now c.args.text.now c.same_front-same.result c.same_front-same.ensures (λ all. end_is_no_blank c.args.text.now c.same_front-same.result (omega arith))

pub returns-then-text-same-ne32 : goal.returns-then-text-same-ne32
returns-then-text-same-ne32 c = along_fails c.args.word.now c.args.text.now c.same_front-same.result c.same_front-same.ensures (λ all e. absurd (omega arith))

pub returns : goal.returns
returns c = along_is c.args.word.now c.args.text.now c.same_front-same.result c.same_front-same.ensures (omega arith) (omega (arith, c.same_front-same.ensures.second)) (omega arith)
