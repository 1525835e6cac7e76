use Rattle.signal_masks.proofs.Common.{◌≡◌, ℕ, ◌||◌, map, take, names_of, parts_of, concatenated, parts_cover, bits_in}
use Rattle.signal_masks.proofs.writes.+covers.Given as goal

abbrev pub invariant-covered_by_all-loop-part : goal.invariant-covered_by_all-loop-part
invariant-covered_by_all-loop-part l = (n i : ℕ) → bits_in l.masks n i ≡ (bits_in l.fn.masks n i || parts_cover (names_of l.scope) (concatenated (map parts_of (take l.part-index l.parts))) n i)
