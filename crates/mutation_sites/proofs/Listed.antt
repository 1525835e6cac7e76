-- The sites at the rest of a port's bits.
use Rattle.mutation_sites.proofs.Common.{◌≡◌, ℕ, ◌+◌, ◌<◌, List, ◌++◌, length, drop, sym, ap, append_assoc, at_drop_more, Bit, Fixed, Mode, Place, Site, bit_sites, bits_sites}
use Rattle.std.specs.Prelude.{false}

-- the sites at the bits from place i on: those at bit i, and those at the bits after it
pub bits_sites-more : (list : List Site) (modes : List Mode) (place : Place) (p : ℕ) (bits : List Bit) (i : ℕ) → i < length bits → (list ++ bit_sites modes place p i) ++ bits_sites modes place p (i + 1) (drop (i + 1) bits) ≡ list ++ bits_sites modes place p i (drop i bits)
bits_sites-more list modes place p bits i h = rw append_assoc (ap (λ rest. list ++ rest) (sym (at_drop_more (bits_sites modes place p i) bits i (Fixed false) h)))
