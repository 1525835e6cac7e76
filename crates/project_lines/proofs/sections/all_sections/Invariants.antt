use Rattle.project_lines.proofs.Common.{◌≡◌, ◌+◌, ◌++◌, drop, map, parts_of, seen}
use Rattle.project_lines.proofs.sections.all_sections.Given as goal

abbrev pub invariant-loop-i : goal.invariant-loop-i
invariant-loop-i l = map seen l.sections.items ++ parts_of (l.i + 1) (map (λ line. line.now) (drop l.i l.lines)) ≡ parts_of 1 (map (λ line. line.now) l.lines)
