use Rattle.sat_solver.proofs.Common.{NoneNeeded}
use Rattle.sat_solver.proofs.analyze.needs_any.Given as goal

abbrev pub invariant-loop-place : goal.invariant-loop-place
invariant-loop-place l = NoneNeeded l.literals l.needed l.from l.place
