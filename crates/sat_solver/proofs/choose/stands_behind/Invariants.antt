use Rattle.sat_solver.proofs.Common.{◌≢◌, ℕ, ◌<◌, pos, get_or}
use Rattle.sat_solver.proofs.choose.stands_behind.Given as goal

abbrev pub invariant-loop-later : goal.invariant-loop-later
invariant-loop-later l = (j : ℕ) → l.fn.place < j → j < l.later → get_or l.clause l.fn.place (pos 0) ≢ get_or l.clause j (pos 0)
