-- Registers by their lowest bits.
use Rattle.std.specs.Prelude.{◌≡◌, ℕ, List, [], ◌∷◌, nat_eq, slice_get, slice_index_or, Option, None, Some, if◌then◌else◌}
use Rattle.netlist_core.specs.declared.bit.Bit.{Bit}
use Rattle.netlist_core.specs.declared.bit.Bit.TheVariants.{Fixed, Net}
use Rattle.netlist_core.specs.declared.port.Register.{Register}

-- For proofs alone.

-- the place of the register of which a net is the lowest bit, by a table
abbrev pub head_in : List (Option ℕ) → ℕ → Option ℕ
head_in table n = slice_index_or table n None

abbrev pub with_head : ℕ → ℕ → (ℕ → Option ℕ) → ℕ → Option ℕ
with_head net place f n = if nat_eq n net then Some place else f n

abbrev pub after_lowest : List Bit → ℕ → (ℕ → Option ℕ) → ℕ → Option ℕ
after_lowest [] place f = f
after_lowest (Fixed v ∷ more) place f = f
after_lowest (Net n ∷ more) place f = with_head n place f

-- the lowest bit of each register tells its place
abbrev pub HaveHeads : List Register → (ℕ → Option ℕ) → Type 0
HaveHeads registers heads = (p n : ℕ) (r : Register) → slice_get registers p ≡ Some r → slice_get r.q 0 ≡ Some (Net n) → heads n ≡ Some p
