use Rattle.project_lines.proofs.Common.{◌≡◌, ℕ, ◌<◌, ◌≤◌, true, length, get_or, is_blank}
use Rattle.project_lines.proofs.lines.without_blanks_behind.Given as goal

abbrev pub invariant-loop-end : goal.invariant-loop-end
invariant-loop-end l = (l.end ≤ length l.bytes) × ((k : ℕ) → l.end ≤ k → k < length l.bytes → is_blank (get_or l.bytes k 0) ≡ true)

abbrev pub decreases-loop-end : goal.decreases-loop-end
decreases-loop-end l = l.end
