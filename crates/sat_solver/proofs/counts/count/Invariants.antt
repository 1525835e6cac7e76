use Rattle.sat_solver.proofs.Common.{◌≡◌, take, known_of, valued}
use Rattle.sat_solver.proofs.counts.count.Given as goal

abbrev pub invariant-loop-l : goal.invariant-loop-l
invariant-loop-l l = l.counted ≡ valued (known_of l.values) l.value (take l.l-index l.clause)
