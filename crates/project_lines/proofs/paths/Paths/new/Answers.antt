use Rattle.project_lines.proofs.Finding.{paths_empty}
use Rattle.project_lines.proofs.paths.Paths.new.Goals as goal

pub returns : goal.returns
returns c = paths_empty _ c.new.ensures.empty
