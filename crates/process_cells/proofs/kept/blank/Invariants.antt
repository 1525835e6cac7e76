use Rattle.process_cells.proofs.Common.{◌≡◌, length, AllKnown, blank}
use Rattle.process_cells.proofs.kept.blank.Given as goal

abbrev pub invariant-loop-rest : goal.invariant-loop-rest
invariant-loop-rest l = record { known : AllKnown (length l.builder.signals) l.rest; same : blank l.rest l.builder ≡ blank l.initial.rest l.initial.builder }

abbrev pub decreases-loop-rest : goal.decreases-loop-rest
decreases-loop-rest l = length l.rest
