use Rattle.sat_solver.proofs.Common.{◌≡◌, ℤ, ◌-◌, length, take, map, list_of, times}
use Rattle.sat_solver.proofs.occurrences.drop_last.Given as goal

abbrev pub invariant-loop-l : goal.invariant-loop-l
invariant-loop-l l = (length l.lists.items ≡ length l.initial.lists.items) × ((k : ℤ) → list_of (map (λ list. list.items) l.lists.items) k ≡ take (length (list_of (map (λ list. list.items) l.initial.lists.items) k) - times k (take l.l-index l.clause)) (list_of (map (λ list. list.items) l.initial.lists.items) k))
