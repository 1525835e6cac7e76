use Rattle.sat_solver.proofs.Common.{◌≡◌, ◌≢◌, ◌≤◌, ℕ, ℤ, ◌<◌, false, Some, length, get_or, literal, known_of}
use Rattle.sat_solver.proofs.choose.replacement.Given as goal

abbrev pub invariant-loop-place : goal.invariant-loop-place
invariant-loop-place l = (l.place ≤ length l.clause) × ((k : ℕ) (d : ℤ) → l.place ≤ k → k < length l.clause → get_or l.clause k d ≢ l.other → literal (known_of l.values) (get_or l.clause k d) ≡ Some false)

abbrev pub decreases-loop-place : goal.decreases-loop-place
decreases-loop-place l = l.place
