use Rattle.sat_solver.proofs.Common.{◌≢◌, ℕ, ◌<◌, pos, length, get_or}
use Rattle.sat_solver.proofs.choose.are_different.Given as goal

abbrev pub invariant-loop-place : goal.invariant-loop-place
invariant-loop-place l = (i j : ℕ) → i < l.place → i < j → j < length l.clause → get_or l.clause i (pos 0) ≢ get_or l.clause j (pos 0)
