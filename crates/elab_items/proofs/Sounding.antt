-- What stands of a builder in which the signals of a sound design are declared.
use Rattle.elab_items.proofs.Common.{◌≡◌, inl, inr, ℕ, zero, suc, ◌<◌, ◌≤◌, Bool, true, false, List, [], ◌∷◌, length, Option, Some, None, refl, sym, ap, ◌∙◌, subst, arith, length-map, slice_get}
use Rattle.elab_items.proofs.Common.{slice_index_or, if◌then◌else◌, Contains, Contains-append_cases, Bit, Decl, Signal, AllBelow, Building, IsSignal, PortsBelow, empty, signal, with_declared, Meaning}
use Rattle.elab_items.proofs.Common.{Design, Begins, StandsBelow, empty_owns, Flat, Place, FlatItem, AllStand, AreSized, HasBits, IsSound, ItemStands, NamesSignal, PlaceStands, register_of}
use Rattle.elab_items.proofs.Common.{registers_of, some_stores, width_in, widths_of, DesignsBegin, SoundAreDeclared, Stands, declared, names_at, names_in, has_cases, has_none}
use Rattle.vlog_meaning.specs.declared.scope.Decl.TheVariants as d
use Rattle.flat_runs.proofs.Growing.{declared_stand, empty_stands}
use Rattle.flat_instances.specs.declared.item.FlatItem.TheVariants as f
use Rattle.elab_items.proofs.Starting.{declared_start}
use Rattle.elab_items.proofs.Declaring.{lengths, begun, owns, some_bits, widths_are, bits_width}

pub counted : (ss : List Signal) → length (declared ss empty).signals ≡ length ss
counted ss = sym (length-map (declared ss empty).signals length) ∙ ap (λ (ns : List ℕ). length ns) (lengths ss empty) ∙ length-map ss bits_width

below_at : (n : ℕ) (l : List (List Bit)) (k : ℕ) → PortsBelow n l → AllBelow n (slice_index_or l k [])
below_at n [] k h = tt
below_at n (bits ∷ more) zero h = h.0
below_at n (bits ∷ more) (suc k) h = below_at n more k h.1

narrow_bits : (ss : List Signal) (k : ℕ) → AreSized ss → widths_of ss k ≤ 128
narrow_bits [] k h = omega arith
narrow_bits (s ∷ more) zero h = h.1
narrow_bits (s ∷ more) (suc k) h = narrow_bits more k h.2

known : (ss : List Signal) (k : ℕ) (s : Signal) → slice_get ss k ≡ Some s → k < length ss
known [] k s e = cc
known (x ∷ more) zero s e = omega arith
known (x ∷ more) (suc k) s e = let h = known more k s e in omega (arith, h)

-- a declared signal of a scope is a signal of the builder
signal_stands : (ss : List Signal) (w low n : ℕ) (o : Option Signal) → slice_get ss n ≡ o → HasBits w low o → (n < length (declared ss empty).signals) × (length (signal (declared ss empty) n) ≡ w) × AllBelow (declared ss empty).nets (signal (declared ss empty) n)
signal_stands ss w low n None is h = absurd h
signal_stands ss w low n (Some s) is h =
    (subst (λ (m : ℕ). n < m) (sym (counted ss)) (known ss n s is), widths_are ss n ∙ ap width_in is ∙ h.0, below_at (declared ss empty).nets (declared ss empty).signals n (owns ss empty empty_owns).below)

name_stands : (ss : List Signal) (o : Option Decl) → NamesSignal ss o → IsSignal (declared ss empty) o
name_stands ss None h = tt
name_stands ss (Some (d.Constant value low is_signed)) h = tt
name_stands ss (Some (d.Signal w low is_signed n)) h = signal_stands ss w low n (slice_get ss n) refl h

scope_stands : (ss : List Signal) (places : List Place) → ((i : ℕ) (p : Place) → slice_get places i ≡ Some p → PlaceStands ss p) → (k : ℕ) (name : List ℕ) → IsSignal (declared ss empty) (names_at places k name)
scope_stands ss places h k name = go (slice_get places k) refl where
  go : (o : Option Place) → slice_get places k ≡ o → IsSignal (declared ss empty) (names_in o name)
  go None is = tt
  go (Some p) is = name_stands ss (p.names name) ((h k p is).names name)

all_below : (ss : List Signal) (b : Building) → StandsBelow b → StandsBelow (declared ss b)
all_below [] b h = h
all_below (s ∷ more) b h = all_below more (with_declared b s.name s.span s.bits.width) (declared_stand b s.name s.span s.bits.width h)

stands_declared : (flat : Flat) → IsSound flat → Stands flat.places (declared flat.signals empty)
stands_declared flat h = record {
  ready = record { own = owns flat.signals empty empty_owns; stands = all_below flat.signals empty empty_stands };
  signals = scope_stands flat.signals flat.places h.places;
  some = λ k less. subst (λ (n : ℕ). 1 ≤ n) (sym (widths_are flat.signals k)) (some_bits flat.signals k h.sized (subst (λ (m : ℕ). k < m) (counted flat.signals) less));
  narrow = λ k. subst (λ (n : ℕ). n ≤ 128) (sym (widths_are flat.signals k)) (narrow_bits flat.signals k h.sized);
}

pub declared_stands : SoundAreDeclared
declared_stands flat h = (stands_declared flat h, declared_start flat.signals)

-- The registers of a design are signals.

register_one : (n m k : ℕ) (ms : List Meaning) (item : FlatItem) → ItemStands n m item → Contains (register_of ms item) k → k < n
register_one n m k ms (f.Declares j) h c = go (some_stores ms j) c where
  go : (b : Bool) → Contains (if b then j ∷ [] else []) k → k < n
  go true one = elim (has_cases [] j k one) [ inl e ↦ subst (λ (i : ℕ). i < n) e h | inr none ↦ absurd (has_none k none) ]
  go false none = absurd (has_none k none)
register_one n m k ms (f.Assigns place left right) h c = absurd (has_none k c)
register_one n m k ms (f.Drives place net value) h c = absurd (has_none k c)
register_one n m k ms (f.Enters port place value) h c = absurd (has_none k c)
register_one n m k ms (f.Open port) h c = absurd (has_none k c)
register_one n m k ms (f.Leaves place value inside port) h c = absurd (has_none k c)
register_one n m k ms (f.Runs place p) h c = absurd (has_none k c)
register_one n m k ms (f.Starts number place value) h c = absurd (has_none k c)
register_one n m k ms (f.Refuses error) h c = absurd (has_none k c)

register_in : (n m k : ℕ) (ms : List Meaning) (items : List FlatItem) → AllStand n m items → Contains (registers_of ms items) k → k < n
register_in n m k ms [] h c = absurd (has_none k c)
register_in n m k ms (item ∷ more) h c = elim (Contains-append_cases (register_of ms item) (registers_of ms more) k c) [
  | inl here ↦ register_one n m k ms item h.0 here
  | inr later ↦ register_in n m k ms more h.1 later
]

begins_with : (b : Building) (design : Design) (starts : List ℕ) → Begins b design → Begins (record b { starts = starts }) design
begins_with b design starts h = record {
  cells = h.cells;
  joints = h.joints;
  registers = h.registers;
  own = record { nets = h.own.nets; below = h.own.below; once = h.own.once };
  widths = h.widths;
  some = h.some;
}

pub designs_begin : DesignsBegin
designs_begin ports clock flat first design sound same is =
    let begins : Begins (declared flat.signals empty) design = begun flat.signals (declared flat.signals empty) design sound.sized refl
    (λ k. ap (λ (d : Design). d.width k) is.2)
    (λ k has. register_in (length flat.signals) (length flat.places) k is.0 flat.items sound.items (subst (λ (d : Design). Contains d.registers k) is.2 has)) in
    subst (λ (b : Building). Begins b design) (sym same) (begins_with (declared flat.signals empty) design first.starts begins)
