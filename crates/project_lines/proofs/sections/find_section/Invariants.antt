use Rattle.project_lines.proofs.Common.{◌≡◌, drop, map, find_part, seen}
use Rattle.project_lines.proofs.sections.find_section.Given as goal

abbrev pub invariant-loop-section : goal.invariant-loop-section
invariant-loop-section l = find_part l.word (map seen (drop l.section-index l.sections)) ≡ find_part l.word (map seen l.sections)
