use Rattle.elab_expr.proofs.Common.{◌≡◌, ◌++◌, take}
use Rattle.elab_expr.proofs.wiring.joined_bits.Given as goal

abbrev pub invariant-loop-bit : goal.invariant-loop-bit
invariant-loop-bit l = l.bits ≡ l.fn.low ++ take l.bit-index l.high
