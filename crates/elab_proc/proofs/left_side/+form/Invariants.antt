use Rattle.elab_proc.proofs.Common.{◌≡◌, map, take, same_form}
use Rattle.elab_proc.proofs.left_side.+form.Given as goal

abbrev pub invariant-same_forms-loop-part : goal.invariant-same_forms-loop-part
invariant-same_forms-loop-part l = l.forms ≡ map same_form (take l.part-index l.parts)
