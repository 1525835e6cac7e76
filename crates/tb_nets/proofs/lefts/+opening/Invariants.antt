use Rattle.tb_nets.proofs.Common.{◌≡◌, ℕ, ◌||◌, map, take, names_of, parts_of, concatenated, bits_in, parts_open}
use Rattle.tb_nets.proofs.lefts.+opening.Given as goal

abbrev pub invariant-opened_by_all-loop-part : goal.invariant-opened_by_all-loop-part
invariant-opened_by_all-loop-part l = (n i : ℕ) → bits_in l.masks n i ≡ (bits_in l.fn.masks n i || parts_open (names_of l.scope) (concatenated (map parts_of (take l.part-index l.parts))) n i)
