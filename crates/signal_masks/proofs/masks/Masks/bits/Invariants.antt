use Rattle.signal_masks.proofs.Common.{◌≡◌, ℕ, take, has_bit, bits_in}
use Rattle.signal_masks.proofs.masks.Masks.bits.Given as goal

abbrev pub invariant-loop-mask : goal.invariant-loop-mask
invariant-loop-mask l = (i : ℕ) → has_bit l.bits i ≡ bits_in (take l.mask-index l.self) l.number i
