use Rattle.elab_items.proofs.Common.{◌≡◌, map, take, same_form}
use Rattle.elab_items.proofs.left.+left.Given as goal

abbrev pub invariant-lefts_of-loop-part : goal.invariant-lefts_of-loop-part
invariant-lefts_of-loop-part l = map same_form l.lefts ≡ take l.part-index l.parts
