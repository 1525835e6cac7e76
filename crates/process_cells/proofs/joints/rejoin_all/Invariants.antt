use Rattle.process_cells.proofs.Common.{◌≡◌, length, AllReturn, all_rejoined}
use Rattle.process_cells.proofs.joints.rejoin_all.Given as goal

abbrev pub invariant-loop-rest : goal.invariant-loop-rest
invariant-loop-rest l = record { fit : AllReturn l.builder l.rest; same : all_rejoined l.rest l.ends l.builder ≡ all_rejoined l.initial.rest l.initial.ends l.initial.builder }

abbrev pub decreases-loop-rest : goal.decreases-loop-rest
decreases-loop-rest l = length l.rest
