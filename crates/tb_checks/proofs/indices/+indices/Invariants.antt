use Rattle.tb_checks.proofs.Common.{◌≡◌, map, take, flat_map, least, names_of, parts_of, concatenated, part_indices}
use Rattle.tb_checks.proofs.indices.+indices.Given as goal

abbrev pub invariant-all_indices_fault-loop-part : goal.invariant-all_indices_fault-loop-part
invariant-all_indices_fault-loop-part l = l.found ≡ least (flat_map (part_indices (names_of l.scope)) (concatenated (map parts_of (take l.part-index l.parts))))
