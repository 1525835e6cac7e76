use Rattle.std.proofs.Common.{◌≡◌, take}
use Rattle.vlog_syntax.proofs.left_side.+copy.Given as goal

abbrev pub invariant-copy_left_sides-loop-part : goal.invariant-copy_left_sides-loop-part
invariant-copy_left_sides-loop-part l = l.copies ≡ take l.part-index l.parts
