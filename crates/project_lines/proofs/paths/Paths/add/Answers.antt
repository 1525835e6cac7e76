use Rattle.project_lines.proofs.Finding.{paths_updated}
use Rattle.project_lines.proofs.paths.Paths.add.Goals as goal

pub returns : goal.returns
returns c = paths_updated _ _ _ _ (c.in_ok-insert.ensures).updates
