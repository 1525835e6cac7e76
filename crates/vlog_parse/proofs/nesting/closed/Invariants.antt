use Rattle.vlog_parse.proofs.Common.{◌≡◌, length, closed}
use Rattle.vlog_parse.proofs.nesting.closed.Given as goal

abbrev pub invariant-loop-row : goal.invariant-loop-row
invariant-loop-row l = closed l.row l.rows ≡ closed l.fn.row l.fn.rows

abbrev pub decreases-loop-row : goal.decreases-loop-row
decreases-loop-row l = length l.rows
