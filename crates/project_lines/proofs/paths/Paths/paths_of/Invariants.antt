use Rattle.project_lines.proofs.Common.{◌≡◌, map, take, path_of, paths_in}
use Rattle.project_lines.proofs.paths.Paths.paths_of.Given as goal

abbrev pub invariant-loop-name : goal.invariant-loop-name
invariant-loop-name l = map (λ path. path.now) l.paths.items ≡ map (path_of (paths_in l.self)) (map (λ name. name.now) (take l.name-index l.names))
