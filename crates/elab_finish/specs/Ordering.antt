-- How the registers are put in order: first without what they take, then with it.
use Rattle.std.specs.Prelude.{◌≡◌, ◌⊎◌, ℕ, true, false, List, [], ◌∷◌, ◌++◌, length, slice_get, Some}
use Rattle.netlist_core.specs.declared.bit.Bit.{Bit}
use Rattle.netlist_core.specs.declared.port.Register.{Register}
use Rattle.net_builder.specs.Building.{Building, signal, start_bits, declared_at}
use Rattle.elab_finish.specs.Endings.{is_register}

-- For proofs alone.

-- the register of a signal, whatever it takes
pub record IsSlot (b : Building) (k : ℕ) (r : Register) : Type 0 where
  pub name : r.name ≡ (declared_at b k).name
  pub span : r.span ≡ (declared_at b k).span
  pub q : r.q ≡ signal b k
  pub start : r.start.bits ≡ start_bits b k
  pub width : r.start.width ≡ length (signal b k)

abbrev pub AreSlots : Building → List ℕ → List Register → Type 0
AreSlots b [] [] = Unit {0}
AreSlots b (k ∷ ks) (r ∷ rs) = IsSlot b k r × AreSlots b ks rs
AreSlots b ks rs = ⊥

-- the register of a signal is added, where it has one
abbrev pub AddsSlot : Building → ℕ → List Register → List Register → Type 0
AddsSlot b k old new = ((r : Register) × IsSlot b k r × (is_register b k ≡ true) × (new ≡ old ++ r ∷ [])) ⊎ ((is_register b k ≡ false) × (new ≡ old))

-- no other register of the list has this lowest bit
abbrev pub IsOnly : List Register → List Bit → Register → Type 0
IsOnly registers bits r = (p : ℕ) (s : Register) → slice_get registers p ≡ Some s → slice_get s.q 0 ≡ slice_get bits 0 → s ≡ r

-- The register takes what the one of the list takes that has its lowest bit.
pub record IsFilled (registers : List Register) (slot r : Register) : Type 0 where
  pub made : Register
  pub only : IsOnly registers slot.q made
  pub is : r ≡ record slot { d = made.d }

abbrev pub AreFilled : List Register → List Register → List Register → Type 0
AreFilled registers [] [] = Unit {0}
AreFilled registers (slot ∷ slots) (r ∷ rs) = IsFilled registers slot r × AreFilled registers slots rs
AreFilled registers slots rs = ⊥
