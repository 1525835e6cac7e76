use Rattle.net_builder.proofs.Common.{◌≡◌, drop, next_in, after_start}
use Rattle.net_builder.proofs.steps.Steps.lay_start.Given as goal

abbrev pub invariant-loop-bit : goal.invariant-loop-bit
invariant-loop-bit l = after_start (drop l.bit-index l.bits) l.rest (next_in l.self) ≡ after_start l.bits l.initial.rest (next_in l.initial.self)
