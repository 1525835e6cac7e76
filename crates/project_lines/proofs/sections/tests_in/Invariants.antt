use Rattle.project_lines.proofs.Common.{◌≡◌, ◌++◌, drop, map, seen, tests_in}
use Rattle.project_lines.proofs.sections.tests_in.Given as goal

abbrev pub invariant-loop-section : goal.invariant-loop-section
invariant-loop-section l = map seen l.tests.items ++ tests_in (map seen (drop l.section-index l.sections)) ≡ tests_in (map seen l.sections)
