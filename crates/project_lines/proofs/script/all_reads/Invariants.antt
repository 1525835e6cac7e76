use Rattle.project_lines.proofs.Common.{◌≡◌, ◌++◌, drop, map, gather, paths_in, script_reads}
use Rattle.project_lines.proofs.script.all_reads.Given as goal

abbrev pub invariant-loop-line : goal.invariant-loop-line
invariant-loop-line l = map (λ file. file.now) l.files.items ++ gather (script_reads (paths_in l.paths)) (map (λ line. line.now) (drop l.line-index l.lines)) ≡ gather (script_reads (paths_in l.paths)) (map (λ line. line.now) l.lines)
