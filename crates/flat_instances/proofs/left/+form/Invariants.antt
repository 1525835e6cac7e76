use Rattle.flat_instances.proofs.Common.{◌≡◌, map, drop, all_of, is_left}
use Rattle.flat_instances.proofs.left.+form.Given as goal

abbrev pub invariant-all_left-loop-part : goal.invariant-all_left-loop-part
invariant-all_left-loop-part l = all_of (map is_left (drop l.part-index l.parts)) ≡ all_of (map is_left l.parts)
