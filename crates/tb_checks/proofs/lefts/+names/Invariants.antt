use Rattle.tb_checks.proofs.Common.{map, take, flat_map, option_copied, names_of, parts_of, concatenated, IsFirst, part_faults}
use Rattle.tb_checks.proofs.lefts.+names.Given as goal

abbrev pub invariant-all_names_fault-loop-part : goal.invariant-all_names_fault-loop-part
invariant-all_names_fault-loop-part l = IsFirst (flat_map (part_faults (names_of l.scope) (option_copied l.clock)) (concatenated (map parts_of (take l.part-index l.parts)))) l.found
