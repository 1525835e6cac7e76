use Rattle.signal_masks.proofs.Common.{◌≡◌, ℕ, ◌||◌, map, take, names_of, parts_of, concatenated, bits_in, indices_read}
use Rattle.signal_masks.proofs.indices.+reading.Given as goal

abbrev pub invariant-indices_of_all-loop-part : goal.invariant-indices_of_all-loop-part
invariant-indices_of_all-loop-part l = (n i : ℕ) → bits_in l.masks n i ≡ (bits_in l.fn.masks n i || indices_read (names_of l.scope) (concatenated (map parts_of (take l.part-index l.parts))) n i)
