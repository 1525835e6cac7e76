use Rattle.sat_solver.proofs.Common.{◌≡◌, ◌≤◌, ◌-◌, [], length, map, replicate}
use Rattle.sat_solver.proofs.occurrences.Occurrences.new.Given as goal

abbrev pub invariant-loop-alloc : goal.invariant-loop-alloc
invariant-loop-alloc l =
    (map (λ w. w.items) l.lists.items ≡ replicate (length l.lists.items) []) × (length l.lists.items ≤ l.count)

abbrev pub decreases-loop-alloc : goal.decreases-loop-alloc
decreases-loop-alloc l = l.count - length l.lists.items
