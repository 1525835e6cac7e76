use Rattle.net_builder.proofs.Common.{◌≡◌, drop, next_in, after_kept}
use Rattle.net_builder.proofs.steps.Steps.keep.Given as goal

abbrev pub invariant-loop-bit : goal.invariant-loop-bit
invariant-loop-bit l = after_kept (drop l.bit-index l.bits) (next_in l.self) ≡ after_kept l.bits (next_in l.initial.self)
