use Rattle.sat_solver.proofs.Common.{take, map, IsAdded}
use Rattle.sat_solver.proofs.occurrences.Occurrences.add.Given as goal

abbrev pub invariant-loop-place : goal.invariant-loop-place
invariant-loop-place l = IsAdded l.number (take l.place l.clause) (map (λ list. list.items) l.initial.self-inside.lists.items) (map (λ list. list.items) l.self-inside.lists.items)
