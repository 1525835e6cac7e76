use Rattle.project_lines.proofs.Common.{◌≡◌, drop, map, has_header, seen}
use Rattle.project_lines.proofs.sections.has_header.Given as goal

abbrev pub invariant-loop-section : goal.invariant-loop-section
invariant-loop-section l = has_header l.header (map seen (drop l.section-index l.sections)) ≡ has_header l.header (map seen l.sections)
