use Rattle.project_lines.proofs.Common.{◌≡◌, drop, map, first_top}
use Rattle.project_lines.proofs.script.first_top.Given as goal

abbrev pub invariant-loop-line : goal.invariant-loop-line
invariant-loop-line l = first_top (map (λ line. line.now) (drop l.line-index l.lines)) ≡ first_top (map (λ line. line.now) l.lines)
