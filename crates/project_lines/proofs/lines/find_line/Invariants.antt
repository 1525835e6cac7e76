use Rattle.project_lines.proofs.Common.{◌≡◌, drop, map, find_line}
use Rattle.project_lines.proofs.lines.find_line.Given as goal

abbrev pub invariant-loop-line : goal.invariant-loop-line
invariant-loop-line l = find_line l.key (map (λ line. line.now) (drop l.line-index l.lines)) ≡ find_line l.key (map (λ line. line.now) l.lines)
