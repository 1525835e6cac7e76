use Rattle.project_lines.proofs.Common.{◌≡◌, ◌++◌, drop, map, take, lead}
use Rattle.project_lines.proofs.sections.lead.Given as goal

abbrev pub invariant-loop-i : goal.invariant-loop-i
invariant-loop-i l = map (λ line. line.now) (take l.i l.lines) ++ lead (map (λ line. line.now) (drop l.i l.lines)) ≡ lead (map (λ line. line.now) l.lines)
