use Rattle.project_lines.proofs.Common.{◌≡◌, ◌+◌, [], drop, map, take, first_fault, files_fault, find_path, paths_in}
use Rattle.project_lines.proofs.paths.check_files.Given as goal

abbrev pub invariant-loop-i : goal.invariant-loop-i
invariant-loop-i l = (first_fault files_fault (map (λ line. line.now) (take l.i l.lines)) (l.number + l.i) (map (λ line. line.now) (drop l.i l.lines)) ≡ first_fault files_fault [] l.number (map (λ line. line.now) l.lines)) × (paths_in l.paths ≡ find_path (map (λ line. line.now) (take l.i l.lines)))
