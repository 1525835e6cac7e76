use Rattle.sat_solver.proofs.Common.{◌≡◌, ◌≤◌, length, IsWalked}
use Rattle.sat_solver.proofs.analyze.analyze.Given as goal

abbrev pub invariant-loop-place : goal.invariant-loop-place
invariant-loop-place l = IsWalked l.store l.free l.trail.literals.items l.trail.starts.items l.needed.items l.lemma.items l.hints.items l.back l.place × (length l.needed.items ≡ length l.trail.values.items) × (l.place ≤ length l.trail.literals.items)

abbrev pub decreases-loop-place : goal.decreases-loop-place
decreases-loop-place l = l.place
