use Rattle.site_texts.proofs.Common.{arith, take_more_same}
use Rattle.site_texts.proofs.choice.same_front.Goals as goal

pub loop-same-preserved : goal.loop-same-preserved
loop-same-preserved c = (omega arith, omega arith, take_more_same c.args.a.now c.args.b.now c.loop-same.same 0 (omega arith) (omega arith) c.loop-same.invariant.2 (cc))

pub returns-else-a-same : goal.returns-else-a-same
returns-else-a-same c = record { first = omega arith; second = omega arith; same = c.loop-same.invariant.2; longest = λ la lb e. absurd (omega arith) }

pub returns-else-same-b : goal.returns-else-same-b
returns-else-same-b c = record { first = omega arith; second = omega arith; same = c.loop-same.invariant.2; longest = λ la lb e. absurd (omega arith) }

pub returns-after-loop-same : goal.returns-after-loop-same
returns-after-loop-same c = record { first = omega arith; second = omega arith; same = c.loop-same.invariant.2; longest = λ la lb e. absurd (omega arith) }
