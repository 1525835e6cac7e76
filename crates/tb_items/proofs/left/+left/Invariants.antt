use Rattle.tb_items.proofs.Common.{◌≡◌, map, take, Some}
use Rattle.tb_items.specs.Lefts.{all_lefts, left_of}
use Rattle.tb_items.proofs.left.+left.Given as goal

abbrev pub invariant-lefts_of-loop-part : goal.invariant-lefts_of-loop-part
invariant-lefts_of-loop-part l = all_lefts (map left_of (take l.part-index l.parts)) ≡ Some l.lefts
