use Rattle.project_lines.proofs.Common.{◌≡◌, map, take, find_path, paths_in}
use Rattle.project_lines.proofs.paths.Paths.of.Given as goal

abbrev pub invariant-loop-line : goal.invariant-loop-line
invariant-loop-line l = paths_in l.paths ≡ find_path (map (λ line. line.now) (take l.line-index l.lines))
