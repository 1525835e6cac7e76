use Rattle.signal_masks.proofs.Common.{List, length, add-one, arith, sym, ap, ◌∙◌, Bool, ◌||◌, take, has_bit, bits_in, Mask}
use Rattle.signal_masks.proofs.Bits.{has_none}
use Rattle.signal_masks.proofs.Sets.{bits_take, any_default}
use Rattle.signal_masks.proofs.masks.Masks.bits.Goals as goal

pub loop-mask-init : goal.loop-mask-init
loop-mask-init c = λ i. has_none i

pub loop-mask-preserved : goal.loop-mask-preserved
loop-mask-preserved c = λ i. rw add-one (c.joined-bits.ensures i ∙ ap (λ (b : Bool). b || has_bit c.of.result i) (c.loop-mask.invariant i) ∙ ap (λ (b : Bool). bits_in (take c.loop-mask.mask-index c.args.self.now) c.args.number i || b) ((rw c.as_slice-mask-items.ensures at c.of.ensures) i) ∙ sym (bits_take c.args.self.now c.loop-mask.mask-index _ c.args.number i (any_default c.args.self.now c.loop-mask.mask-index _ _ (omega (arith, ap (λ (l : List Mask). length l) c.as_slice-mask-items.ensures))) (omega (arith, ap (λ (l : List Mask). length l) c.as_slice-mask-items.ensures))))
