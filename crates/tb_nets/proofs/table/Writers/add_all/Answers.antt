use Rattle.tb_nets.proofs.Common.{List, length, add-one, arith, ap, Mask, any_default}
use Rattle.tb_nets.proofs.Tables.{more_masks, no_masks}
use Rattle.tb_nets.proofs.table.Writers.add_all.Goals as goal

pub loop-mask-init : goal.loop-mask-init
loop-mask-init c = λ n i d. no_masks _ _

pub loop-mask-preserved : goal.loop-mask-preserved
loop-mask-preserved c = λ n i d. rw add-one (more_masks c.args.masks.now c.loop-mask.mask-index _ n i _ _ _ _ (any_default c.args.masks.now c.loop-mask.mask-index _ _ (omega (arith, ap (λ (l : List Mask). length l) c.as_slice-mask-items.ensures))) (omega (arith, ap (λ (l : List Mask). length l) c.as_slice-mask-items.ensures)) (c.loop-mask.invariant n i d) ((rw c.as_slice-mask-items.ensures at c.in_ok-add.ensures) n i d))
