use Rattle.sat_solver.proofs.Common.{ℕ, ◌<◌, ◌≤◌, get_or}
use Rattle.sat_solver.proofs.analyze.level_of.Given as goal

abbrev pub invariant-loop-level : goal.invariant-loop-level
invariant-loop-level l = (j : ℕ) → j < l.level → get_or l.starts j 0 ≤ l.place
