use Rattle.signal_masks.proofs.Common.{List, length, add-one, arith, ap, sym, Mask}
use Rattle.signal_masks.proofs.Sets.{any_default, all_more}
use Rattle.signal_masks.proofs.masks.Masks.add_all.Goals as goal
use Rattle.signal_masks.proofs.Placing.{or_end}

pub loop-mask-init : goal.loop-mask-init
loop-mask-init c = λ n i. sym (or_end _)

pub loop-mask-preserved : goal.loop-mask-preserved
loop-mask-preserved c = λ n i. rw add-one (all_more c.args.other.now c.loop-mask.mask-index _ n i _ _ _ (any_default c.args.other.now c.loop-mask.mask-index _ _ (omega (arith, ap (λ (l : List Mask). length l) c.as_slice-mask-items.ensures))) (omega (arith, ap (λ (l : List Mask). length l) c.as_slice-mask-items.ensures)) (c.loop-mask.invariant n i) ((rw c.as_slice-mask-items.ensures at c.in_ok-add.ensures) n i))
