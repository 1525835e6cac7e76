use Rattle.net_builder.proofs.Common.{◌≡◌, drop, numbers_of, next_in, after_starts}
use Rattle.net_builder.proofs.steps.Steps.lay_starts.Given as goal

abbrev pub invariant-loop-k : goal.invariant-loop-k
invariant-loop-k l = after_starts (drop l.k l.signals) (numbers_of (drop l.k l.starts)) (next_in l.self) ≡ after_starts l.signals (numbers_of l.starts) (next_in l.initial.self)
