use Rattle.signal_masks.proofs.Common.{◌≡◌, ℕ, ◌||◌, take, bits_in}
use Rattle.signal_masks.proofs.masks.Masks.add_all.Given as goal

abbrev pub invariant-loop-mask : goal.invariant-loop-mask
invariant-loop-mask l = (n i : ℕ) → bits_in l.self n i ≡ (bits_in l.fn.self n i || bits_in (take l.mask-index l.other) n i)
