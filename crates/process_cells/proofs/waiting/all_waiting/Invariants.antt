use Rattle.process_cells.proofs.Common.{◌≡◌, length, AllKnown, all_waiting}
use Rattle.process_cells.proofs.waiting.all_waiting.Given as goal

abbrev pub invariant-loop-rest : goal.invariant-loop-rest
invariant-loop-rest l = record { known : AllKnown (length l.builder.signals) l.rest; places : length l.waiting ≡ length l.builder.signals; same : all_waiting l.builder l.rest l.waiting ≡ all_waiting l.builder l.initial.rest l.initial.waiting }

abbrev pub decreases-loop-rest : goal.decreases-loop-rest
decreases-loop-rest l = length l.rest
