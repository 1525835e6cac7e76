-- Tables of the bits of signals, by their numbers.
use Rattle.std.specs.Prelude.{ℕ, ◌&&◌, List, nat_eq, slice_index_or}
use Rattle.vlog_meaning.specs.Senses.{Bits}
use Rattle.signal_masks.specs.Masks.{has_bit}
use Rattle.tb_writers.specs.declared.writers.Writers.{Writers}
use Rattle.tb_writers.specs.Writers.{Written}

abbrev pub bits_of : List ℕ → Bits
bits_of masks n i = has_bit (slice_index_or masks n 0) i

abbrev pub written_of : Writers → Written
written_of w = record { nets = bits_of w.nets; variables = bits_of w.variables }

-- For proofs alone.

-- bits of one signal
abbrev pub mask_bits : ℕ → ℕ → Bits
mask_bits number bits n i = nat_eq n number && has_bit bits i
