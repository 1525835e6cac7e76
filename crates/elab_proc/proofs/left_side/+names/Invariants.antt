use Rattle.elab_proc.proofs.Common.{map, take, flat_map, names_of, parts_of, concatenated, IsFirst, part_refusals}
use Rattle.elab_proc.proofs.left_side.+names.Given as goal

abbrev pub invariant-all_names_refusal-loop-part : goal.invariant-all_names_refusal-loop-part
invariant-all_names_refusal-loop-part l = IsFirst (flat_map (part_refusals (names_of l.scope) l.written) (concatenated (map parts_of (take l.part-index l.parts)))) l.found
