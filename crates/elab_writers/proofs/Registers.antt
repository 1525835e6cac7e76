-- A builder in which all items are built is that of the design: its registers are the design's, in the order of their declarations.
use Rattle.elab_writers.proofs.Common.{◌≡◌, ◌↔◌, inl, inr, ℕ, ◌<◌, ◌≤◌, Bool, true, false, List, [], ◌∷◌, ◌++◌, map, length, get_or, refl, sym, ap, ◌∙◌, subst, nat_eq, slice_index_or, if◌then◌else◌}
use Rattle.elab_writers.proofs.Common.{Contains, Contains-append_cases, Contains-append_left, Contains-append_right, Bit, Register, Building, signal, Meaning, Assign, Combinational, Clocked}
use Rattle.elab_writers.proofs.Common.{all_stored, AddsItems, HasOwnNets, registers_stored, FlatItem, AllStand, has, registers_of, some_stores, Stands, is_register, registers_in, signals_have}
use Rattle.elab_writers.proofs.Common.{BuildersAreOfDesigns, declared_numbers, nat_eq_same, has_cases, has_first, has_more, has_none}
use Rattle.netlist_core.specs.Runs.{q_bits}
use Rattle.flat_runs.specs.Designs.{Design}
use Rattle.flat_instances.specs.declared.item.FlatItem.TheVariants as f
use Rattle.elab_writers.proofs.Finishing.{all_same, all_stand, first_stands, last_count, no_first_registers}
use Rattle.std.proofs.lemmas.Bool.{or_cases, or_left, or_right}
use Rattle.std.proofs.lemmas.Map.Views.{exact_unsigned_eq}

-- Variables of clocked processes.

has_contains : (ks : List ℕ) (k : ℕ) → has ks k ≡ true → Contains ks k
has_contains [] k e = absurd cc
has_contains (n ∷ ks) k e = elim (or_cases (nat_eq n k) (has ks k) e) [
  | inl here ↦ subst (Contains (n ∷ ks)) (exact_unsigned_eq n k here) (has_first ks n)
  | inr more ↦ has_more ks n k (has_contains ks k more)
]

contains_has : (ks : List ℕ) (k : ℕ) → Contains ks k → has ks k ≡ true
contains_has [] k c = absurd (has_none k c)
contains_has (n ∷ ks) k c = elim (has_cases ks n k c) [
  | inl e ↦ or_left (nat_eq n k) (has ks k) (subst (λ (j : ℕ). nat_eq n j ≡ true) e (nat_eq_same n))
  | inr m ↦ or_right (nat_eq n k) (has ks k) (contains_has ks k m)
]

stored : (ms : List Meaning) (k : ℕ) → some_stores ms k ≡ true → Contains (all_stored ms) k
stored [] k e = absurd cc
stored (Assign left value ∷ ms) k e = stored ms k e
stored (Combinational ks effect ∷ ms) k e = stored ms k e
stored (Clocked ks effect ∷ ms) k e = elim (or_cases (has ks k) (some_stores ms k) e) [
  | inl here ↦ Contains-append_left ks (all_stored ms) k (has_contains ks k here)
  | inr more ↦ Contains-append_right ks (all_stored ms) k (stored ms k more)
]

stores_all : (ms : List Meaning) (k : ℕ) → Contains (all_stored ms) k → some_stores ms k ≡ true
stores_all [] k c = absurd (has_none k c)
stores_all (Assign left value ∷ ms) k c = stores_all ms k c
stores_all (Combinational ks effect ∷ ms) k c = stores_all ms k c
stores_all (Clocked ks effect ∷ ms) k c = elim (Contains-append_cases ks (all_stored ms) k c) [
  | inl here ↦ or_left (has ks k) (some_stores ms k) (contains_has ks k here)
  | inr more ↦ or_right (has ks k) (some_stores ms k) (stores_all ms k more)
]

-- Registers in the order of the declarations.

same_flag : (s t : Bool) → (s ≡ true → t ≡ true) → (t ≡ true → s ≡ true) → s ≡ t
same_flag true t h g = sym (h refl)
same_flag false true h g = g refl
same_flag false false h g = refl

chosen : (k : ℕ) (s t : Bool) (xs ys : List ℕ) → s ≡ t → xs ≡ ys → (if s then k ∷ [] else []) ++ xs ≡ (if t then k ∷ ys else ys)
chosen k true true xs ys is e = ap (λ (l : List ℕ). k ∷ l) e
chosen k true false xs ys is e = absurd cc
chosen k false true xs ys is e = absurd cc
chosen k false false xs ys is e = e

in_order : (b : Building) (m : ℕ) (ms : List Meaning) → ((k : ℕ) → k < length b.signals → some_stores ms k ≡ is_register b k) → (items : List FlatItem) → AllStand (length b.signals) m items → registers_of ms items ≡ registers_in b (declared_numbers items)
in_order b m ms same [] h = refl
in_order b m ms same (f.Declares k ∷ more) h = chosen k (some_stores ms k) (is_register b k) (registers_of ms more) (registers_in b (declared_numbers more)) (same k h.0) (in_order b m ms same more h.1)
in_order b m ms same (other ∷ more) h = in_order b m ms same more h.1

stored_last : (ms : List Meaning) (first last : Building) → first.registers ≡ [] → last.signals ≡ first.signals → AddsItems ms first last → q_bits last.registers ≡ map (signal last) (all_stored ms)
stored_last ms first last none same adds =
    registers_stored ms first last adds ∙ ap (λ (rs : List Register). q_bits rs ++ map (signal first) (all_stored ms)) none
    ∙ ap (λ (s : List (List Bit)). map (λ (k : ℕ). slice_index_or s k []) (all_stored ms)) (sym same)

registers_same : (b : Building) (ms : List Meaning) → HasOwnNets b → q_bits b.registers ≡ map (signal b) (all_stored ms) → ((k : ℕ) → k < length b.signals → 1 ≤ length (signal b k)) → (k : ℕ) → k < length b.signals → some_stores ms k ≡ is_register b k
registers_same b ms own q some k less =
    let told : (is_register b k ≡ true) ↔ Contains (all_stored ms) k = signals_have b (all_stored ms) k own q (some k less) in
    same_flag (some_stores ms k) (is_register b k) (λ e. told.1 (stored ms k e)) (λ e. stores_all ms k (told.0 e))

pub of_designs : BuildersAreOfDesigns
of_designs ports clock flat flags clocks first last design sound same built is adds starts =
    let ms : List Meaning = is.0 in
    let still = all_same flags flat clocks flat.items first last built in
    let end : Stands flat.places last = all_stand flags flat clocks flat.items first last (first_stands flat first sound same) built in
    let count : length last.signals ≡ length flat.signals = last_count flags flat clocks first last same built in
    let items : AddsItems ms first last = subst (λ (l : List Meaning). AddsItems l first last) (ap (λ (d : Design). d.items) is.2) adds in
    let q : q_bits last.registers ≡ map (signal last) (all_stored ms) = stored_last ms first last (no_first_registers flat first same) still.signals items in
    let order = in_order last (length flat.places) ms (registers_same last ms end.ready.own q end.some) flat.items (subst (λ (n : ℕ). AllStand n (length flat.places) flat.items) (sym count) sound.items) in
    record {
      inputs = ap (λ (d : Design). d.inputs) is.2;
      outputs = ap (λ (d : Design). d.outputs) is.2;
      registers = ap (λ (d : Design). d.registers) is.2 ∙ order;
      starts = λ k. ap (λ (l : List ℕ). get_or l k 0) still.starts ∙ starts.start k;
    }
