-- The steps of propagation by hints.
use Rattle.lrat_checker.proofs.Common.{◌≡◌, ◌≢◌, ℕ, zero, suc, ◌+◌, ◌-◌, ◌<◌, ◌≤◌, Bool, true, false, not, List, [], ◌∷◌, ◌++◌, length, take, get_or, ℤ, cond, Option, Some, refl, ap, sym, ◌∙◌, subst}
use Rattle.lrat_checker.proofs.Common.{slice_get, arith, All, take_more, All-head, All-tail, slice_get-get_or, slice_get_within, variable, AreOver, Known, literal, is_some_false, left, with_true}
use Rattle.lrat_checker.proofs.Common.{IsUnit, clause_at, Propagates, Reaches}

-- what holds of each literal holds of those that are left
pub left_all : (P : ℤ → Type 0) (known : Known) (clause : List ℤ) (l : ℤ) (more : List ℤ) → All P clause → left known clause ≡ l ∷ more → P l
left_all P known [] l more all e = absurd (let no : [] ≡ l ∷ more = e in cc)
left_all P known (x ∷ xs) l more all e = elim (is_some_false (literal known x)) as (λ (b : Bool). cond (not b) (x ∷ left known xs) (left known xs) ≡ l ∷ more → P l) [
  | true ↦ λ rest. left_all P known xs l more (All-tail P x xs all) rest
  | false ↦ λ here. let same : x ≡ l = cc in subst P same (All-head P x xs all)
] e

-- the literals of a clause of the store are within the table
pub clause-within : (store : List (List ℤ)) (limit k : ℕ) (clause : List ℤ) → AreOver (limit - 1) store → slice_get store k ≡ Some clause → All (λ m. variable m < limit) clause
clause-within store limit k clause over at i d h =
    let within : k < length store = slice_get_within store k clause at in
    let same : get_or store k [] ≡ clause = let got : Some (get_or store k []) ≡ Some clause = sym (slice_get-get_or store k [] within) ∙ at in cc in
    let P : List ℤ → Type 0 = All (λ l. (0 < variable l) × (variable l ≤ limit - 1)) in
    let each : All (λ l. (0 < variable l) × (variable l ≤ limit - 1)) clause = subst P same (over k [] within) in
    omega (arith, (each i d h).0, (each i d h).1)

pub unit_variable : (known : Known) (clause : List ℤ) (l : ℤ) (limit : ℕ) → All (λ m. variable m < limit) clause → IsUnit known clause l → variable l < limit
unit_variable known clause l limit all unit = left_all (λ m. variable m < limit) known clause l [] all unit.alone

-- the clause with a number, by its place
pub clause_at-place : (clauses : List (List ℤ)) (hint : ℕ) (found : Option (List ℤ)) → hint ≢ 0 → slice_get clauses (hint - 1) ≡ found → clause_at clauses hint ≡ found
clause_at-place clauses zero found h e = absurd (h refl)
clause_at-place clauses (suc k) found h e = let is : suc k - 1 ≡ k = omega arith in rw is at e

-- one more hint that is unit
pub propagates-push : (clauses : List (List ℤ)) (start : Known) (hints : List ℕ) (known : Known) (hint : ℕ) (clause : List ℤ) (l : ℤ) → Propagates clauses start hints known → clause_at clauses hint ≡ Some clause → IsUnit known clause l → Propagates clauses start (hints ++ hint ∷ []) (with_true known l)
propagates-push clauses start [] known hint clause l same at unit =
    let P : Known → Type 0 = λ k. IsUnit k clause l in
    (clause, l, at, subst P (sym same) unit, ap (λ (k : Known). with_true k l) same)
propagates-push clauses start (h ∷ hints) known hint clause l steps at unit =
    (steps.0, steps.1, steps.2, steps.3, propagates-push clauses (with_true start steps.1) hints known hint clause l steps.4 at unit)

pub propagates-more : (clauses : List (List ℤ)) (start : Known) (hints : List ℕ) (i : ℕ) (known : Known) (clause : List ℤ) (l : ℤ) → i < length hints → Propagates clauses start (take i hints) known → clause_at clauses (get_or hints i 0) ≡ Some clause → IsUnit known clause l → Propagates clauses start (take (i + 1) hints) (with_true known l)
propagates-more clauses start hints i known clause l h steps at unit = rw (take_more hints i 0 h) (propagates-push clauses start (take i hints) known (get_or hints i 0) clause l steps at unit)

pub reaches : (clauses : List (List ℤ)) (start : Known) (hints : List ℕ) (i : ℕ) (known : Known) → i < length hints → Propagates clauses start (take i hints) known → Reaches clauses start hints i (get_or hints i 0) known
reaches clauses start hints i known h steps = record { there = slice_get-get_or hints i 0 h; propagates = steps }
