use Rattle.process_latches.proofs.Common.{◌≡◌, not, ◌||◌, some_bit, has_bit}
use Rattle.process_latches.proofs.latches.some_loose.Given as goal

abbrev pub invariant-loop-place : goal.invariant-loop-place
invariant-loop-place l = l.found ≡ some_bit l.place (λ i. not (has_bit l.covered i) || has_bit l.early i)
