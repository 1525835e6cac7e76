use Rattle.vlog_parse.proofs.Depths.{closed_end}
use Rattle.vlog_parse.proofs.nesting.closed.Goals as goal

pub returns : goal.returns
returns c = closed_end _ _ _ c.loop-row-test.false c.loop-row.invariant
