use Rattle.project_lines.proofs.Common.{◌≡◌, ◌+◌, [], drop, map, option_map, take, first_fault, gather, paths_in, with_names, first_top, script_fault, script_reads}
use Rattle.project_lines.proofs.script.check_script.Given as goal

abbrev pub invariant-loop-i : goal.invariant-loop-i
invariant-loop-i l = (first_fault (script_fault (paths_in l.paths) l.fn.read) (map (λ line. line.now) (take l.i l.lines)) (l.number + l.i) (map (λ line. line.now) (drop l.i l.lines)) ≡ first_fault (script_fault (paths_in l.paths) l.fn.read) [] l.number (map (λ line. line.now) l.lines)) × (l.read ≡ with_names l.fn.read (gather (script_reads (paths_in l.paths)) (map (λ line. line.now) (take l.i l.lines)))) × (option_map (λ name. name.now) l.top ≡ first_top (map (λ line. line.now) (take l.i l.lines)))
