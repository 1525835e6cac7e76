use Rattle.process_cells.proofs.Common.{◌≡◌, ◌≤◌, ◌-◌, [], length, replicate}
use Rattle.process_cells.proofs.waiting.empty_places.Given as goal

abbrev pub invariant-loop-alloc : goal.invariant-loop-alloc
invariant-loop-alloc l = (l.places.items ≡ replicate (length l.places.items) []) × (length l.places.items ≤ l.count)

abbrev pub decreases-loop-alloc : goal.decreases-loop-alloc
decreases-loop-alloc l = l.count - length l.places.items
