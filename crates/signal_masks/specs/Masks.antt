-- Sets of bits of signals, by masks.
use Rattle.std.specs.Prelude.{ℕ, Bool, false, ◌&&◌, ◌||◌, List, [], ◌∷◌, nat_eq}
use Rattle.std.specs.Int.{bit_at}
use Rattle.vlog_meaning.specs.Senses.{Bits}
use Rattle.signal_masks.specs.declared.mask.Mask.{Mask}

-- a number has this bit, counted from the lowest
abbrev pub has_bit : ℕ → ℕ → Bool
has_bit bits i = nat_eq (bit_at bits i) 1

-- the bits that masks have, by the number of the signal
abbrev pub bits_in : List Mask → Bits
bits_in [] n i = false
bits_in (m ∷ more) n i = (nat_eq n m.number && has_bit m.bits i) || bits_in more n i
