use Rattle.vlog_meaning.proofs.Common.{◌^◌, ◌∙◌, arith}
use Rattle.vlog_meaning.proofs.Rounds.{round_even, round_odd}
use Rattle.vlog_meaning.proofs.arithmetic.wrapping_power.Goals as goal
use Rattle.vlog_meaning.proofs.arithmetic.wrapping_power.Goals.{then-left-eq1, else-left-eq1}

pub loop-left-preserved : goal.loop-left-preserved
loop-left-preserved c = elim c.if-left-eq1.branch [
  | then-left-eq1 w ↦ rw w.product-is (round_odd c.loop-left.product c.loop-left.square c.loop-left.left (2 ^ 128) (omega arith) ∙ c.loop-left.invariant)
  | else-left-eq1 w ↦ rw w.product-is (round_even c.loop-left.product c.loop-left.square c.loop-left.left (2 ^ 128) (omega arith) ∙ c.loop-left.invariant)
]
