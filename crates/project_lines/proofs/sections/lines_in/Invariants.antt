use Rattle.project_lines.proofs.Common.{◌≡◌, drop, map, lines_in, seen}
use Rattle.project_lines.proofs.sections.lines_in.Given as goal

abbrev pub invariant-loop-section : goal.invariant-loop-section
invariant-loop-section l = lines_in l.word (map seen (drop l.section-index l.sections)) ≡ lines_in l.word (map seen l.sections)
