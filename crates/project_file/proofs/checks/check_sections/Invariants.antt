use Rattle.project_file.proofs.Common.{◌≡◌, ◌+◌, [], drop, map, take, first_fault, gather, with_names, around_of, part_fault, part_reads, seen}
use Rattle.project_file.proofs.checks.check_sections.Given as goal

abbrev pub invariant-loop-i : goal.invariant-loop-i
invariant-loop-i l = (first_fault (part_fault (around_of l.around)) (map seen (take l.i l.sections)) (0 + l.i) (map seen (drop l.i l.sections)) ≡ first_fault (part_fault (around_of l.around)) [] 0 (map seen l.sections)) × (l.read ≡ with_names [] (gather (part_reads (around_of l.around).known) (map seen (take l.i l.sections))))
