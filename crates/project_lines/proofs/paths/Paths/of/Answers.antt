use Rattle.project_lines.proofs.Common.{◌∙◌}
use Rattle.project_lines.proofs.Finding.{no_lines}
use Rattle.project_lines.proofs.Reading.{paths_step}
use Rattle.project_lines.proofs.paths.Paths.of.Goals as goal

pub loop-line-init : goal.loop-line-init
loop-line-init c = c.new-paths.ensures ∙ no_lines

pub loop-line-preserved : goal.loop-line-preserved
loop-line-preserved c = paths_step c.args.lines.now c.loop-line.line-index _ _ _ c.loop-line-test.true c.loop-line.invariant c.in_ok-add_line.ensures
