use Rattle.process_cells.proofs.Common.{◌≡◌, ◌++◌, length, AllKnown, all_kept}
use Rattle.process_cells.proofs.kept.all_kept.Given as goal

abbrev pub invariant-loop-rest : goal.invariant-loop-rest
invariant-loop-rest l = record { known : AllKnown (length l.builder.signals) l.rest; same : l.variables.items ++ all_kept l.builder l.rest ≡ all_kept l.builder l.initial.rest }

abbrev pub decreases-loop-rest : goal.decreases-loop-rest
decreases-loop-rest l = length l.rest
