use Rattle.flat_items.proofs.Common.{◌≡◌, drop, add_all, assigned_items, flat_of}
use Rattle.flat_items.proofs.flat.Flat.assigns.Given as goal

abbrev pub invariant-loop-assignment : goal.invariant-loop-assignment
invariant-loop-assignment l = add_all (flat_of l.self) (assigned_items l.place (drop l.assignment-index l.assignments)) ≡ add_all (flat_of l.initial.self) (assigned_items l.place l.assignments)
