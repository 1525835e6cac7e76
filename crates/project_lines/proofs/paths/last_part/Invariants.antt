use Rattle.project_lines.proofs.Common.{◌≢◌, ℕ, ◌<◌, ◌≤◌, length, get_or}
use Rattle.project_lines.proofs.paths.last_part.Given as goal

abbrev pub invariant-loop-start : goal.invariant-loop-start
invariant-loop-start l = (l.start ≤ length l.path) × ((k : ℕ) → l.start ≤ k → k < length l.path → get_or l.path k 0 ≢ 47)

abbrev pub decreases-loop-start : goal.decreases-loop-start
decreases-loop-start l = l.start
