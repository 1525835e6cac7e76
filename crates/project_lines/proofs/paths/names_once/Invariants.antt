use Rattle.project_lines.proofs.Common.{◌≡◌, [], take, with_names}
use Rattle.project_lines.proofs.paths.names_once.Given as goal

abbrev pub invariant-loop-name : goal.invariant-loop-name
invariant-loop-name l = l.read ≡ with_names [] (take l.name-index l.names)
