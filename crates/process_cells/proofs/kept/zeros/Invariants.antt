use Rattle.process_cells.proofs.Common.{◌≡◌, ◌++◌, length, zeros}
use Rattle.process_cells.proofs.kept.zeros.Given as goal

abbrev pub invariant-loop-rest : goal.invariant-loop-rest
invariant-loop-rest l = l.found ++ zeros l.rest ≡ zeros l.initial.rest

abbrev pub decreases-loop-rest : goal.decreases-loop-rest
decreases-loop-rest l = length l.rest
