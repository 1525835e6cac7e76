-- The variables of a process stand once among the variables, where each has assignments of one kind.
use Rattle.elab_writers.proofs.Common.{◌≡◌, inl, inr, ℕ, Bool, true, false, List, [], ◌∷◌, map, refl, sym, ap, ◌∙◌, subst, ◌||◌, nat_eq, ◌&&◌, if◌then◌else◌, Contains, Target, NoneTwice}
use Rattle.elab_writers.proofs.Common.{distinct_after, stands, Conforms, nat_eq_same, has_cases, has_none}
use Rattle.vlog_effects.specs.Effects.{bit_same}
use Rattle.process_cells.proofs.Clocking.{conforms_distinct}
use Rattle.vlog_effects.proofs.Bools.{or-right}
use Rattle.vlog_effects.proofs.Cases.{bit-self}

-- none of these targets stands among those seen
abbrev NoneSeen : List Target → List Target → Type 0
NoneSeen seen [] = Unit {0}
NoneSeen seen (x ∷ more) = (stands x.is_blocking seen x.number ≡ false) × NoneSeen seen more

seen_less : (y : Target) (seen ts : List Target) → NoneSeen (y ∷ seen) ts → NoneSeen seen ts
seen_less y seen [] h = tt
seen_less y seen (x ∷ more) h = (or-right (nat_eq y.number x.number && bit_same x.is_blocking y.is_blocking) (stands x.is_blocking seen x.number) h.0, seen_less y seen more h.1)

distinct_unseen : (seen ts : List Target) → NoneSeen seen (distinct_after seen ts)
distinct_unseen seen [] = tt
distinct_unseen seen (x ∷ more) = go (stands x.is_blocking seen x.number) refl (distinct_unseen seen more) (distinct_unseen (x ∷ seen) more) where
  go : (b : Bool) → stands x.is_blocking seen x.number ≡ b → NoneSeen seen (distinct_after seen more) → NoneSeen (x ∷ seen) (distinct_after (x ∷ seen) more) → NoneSeen seen (if b then distinct_after seen more else x ∷ distinct_after (x ∷ seen) more)
  go true e same other = same
  go false e same other = (e, seen_less x seen (distinct_after (x ∷ seen) more) other)

either_true : (a b c : Bool) → a ≡ true → b ≡ true → ((a && b) || c) ≡ false → ⊥
either_true true true c h g e = absurd cc
either_true true false c h g e = absurd cc
either_true false b c h g e = absurd cc

apart : (kinds : ℕ → Bool) (x : Target) (seen ts : List Target) → Conforms kinds ts → x.is_blocking ≡ kinds x.number → NoneSeen (x ∷ seen) ts → ¬ Contains (map (λ y. y.number) ts) x.number
apart kinds x seen [] h e n c = has_none x.number c
apart kinds x seen (y ∷ ts) h e n c = elim (has_cases (map (λ z. z.number) ts) y.number x.number c) [
  | inl same ↦ (
      let kind : y.is_blocking ≡ x.is_blocking = h.0 ∙ ap kinds same ∙ sym e in
      let number : nat_eq x.number y.number ≡ true = subst (λ (k : ℕ). nat_eq x.number k ≡ true) (sym same) (nat_eq_same x.number) in
      let blocking : bit_same y.is_blocking x.is_blocking ≡ true = subst (λ (b : Bool). bit_same y.is_blocking b ≡ true) kind (bit-self y.is_blocking) in
      either_true (nat_eq x.number y.number) (bit_same y.is_blocking x.is_blocking) (stands y.is_blocking seen y.number) number blocking n.0)
  | inr m ↦ apart kinds x seen ts h.1 e n.1 m
]

pub numbers_once : (kinds : ℕ → Bool) (seen ts : List Target) → Conforms kinds ts → NoneTwice (map (λ x. x.number) (distinct_after seen ts))
numbers_once kinds seen [] h = tt
numbers_once kinds seen (x ∷ more) h = go (stands x.is_blocking seen x.number) (numbers_once kinds seen more h.1) (numbers_once kinds (x ∷ seen) more h.1) where
  go : (b : Bool) → NoneTwice (map (λ y. y.number) (distinct_after seen more)) → NoneTwice (map (λ y. y.number) (distinct_after (x ∷ seen) more)) → NoneTwice (map (λ y. y.number) (if b then distinct_after seen more else x ∷ distinct_after (x ∷ seen) more))
  go true same other = same
  go false same other = (apart kinds x seen (distinct_after (x ∷ seen) more) (conforms_distinct kinds (x ∷ seen) more h.1) h.0 (distinct_unseen (x ∷ seen) more), other)
