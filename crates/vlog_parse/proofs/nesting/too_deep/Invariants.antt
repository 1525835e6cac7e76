use Rattle.vlog_parse.proofs.Common.{◌≡◌, ◌≤◌, drop, [], walked, first_deep, outermost}
use Rattle.vlog_parse.proofs.nesting.too_deep.Given as goal

abbrev pub invariant-loop-step : goal.invariant-loop-step
invariant-loop-step l = (first_deep l.at (walked l.row l.rows (drop l.step-index l.steps)) ≡ first_deep 0 (walked outermost [] l.steps)) × (l.at ≤ l.step-index)
