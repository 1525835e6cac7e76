use Rattle.signal_masks.proofs.Common.{◌≡◌, ℕ, ◌||◌, ◌&&◌, not, take, bits_in}
use Rattle.signal_masks.proofs.masks.Masks.add_missing.Given as goal

abbrev pub invariant-loop-mask : goal.invariant-loop-mask
invariant-loop-mask l = (n i : ℕ) → bits_in l.self n i ≡ (bits_in l.fn.self n i || (bits_in (take l.mask-index l.first) n i && not (bits_in l.second n i)))
