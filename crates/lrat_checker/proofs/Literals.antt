-- Partial assignments that make literals false, and lists of free literals.
use Rattle.lrat_checker.proofs.Common.{◌≡◌, ℕ, ◌<◌, ◌≤◌, Bool, true, false, not, ◌||◌, List, [], ◌∷◌, ◌++◌, ℤ, is_some, refl, sym, ◌∙◌, inl, inr, nat_eq, eqb_tells, variable, Known, with_value}
use Rattle.lrat_checker.proofs.Common.{with_false, is_positive, is_named, AreFree}
use Rattle.std.proofs.lemmas.List.Folds.{list_any-append}

pub with_false-append : (known : Known) (xs ys : List ℤ) → with_false known (xs ++ ys) ≡ with_false (with_false known xs) ys
with_false-append known [] ys = refl
with_false-append known (x ∷ xs) ys = with_false-append (with_value known (variable x) (not (is_positive x))) xs ys

-- a variable has a value where it had one, or where one of the literals names it
pub with_false-some : (known : Known) (xs : List ℤ) (v : ℕ) → is_some (with_false known xs v) ≡ (is_named xs v || is_some (known v))
with_false-some known [] v = refl
with_false-some known (x ∷ xs) v =
    let rest : is_some (with_false (with_value known (variable x) (not (is_positive x))) xs v) ≡ (is_named xs v || is_some (with_value known (variable x) (not (is_positive x)) v)) = with_false-some (with_value known (variable x) (not (is_positive x))) xs v in
    let here : (is_named xs v || is_some (with_value known (variable x) (not (is_positive x)) v)) ≡ ((nat_eq v (variable x) || is_named xs v) || is_some (known v)) =
    elim (eqb_tells v (variable x)) [ inl same ↦ rw same.0 (elim (is_named xs v) as (λ b. (b || true) ≡ true) [ true ↦ refl | false ↦ refl ]) | inr other ↦ rw other.0 refl ] in
    rest ∙ here

pub named-push : (xs : List ℤ) (l : ℤ) (v : ℕ) → is_named (xs ++ l ∷ []) v ≡ (is_named xs v || (nat_eq v (variable l) || false))
named-push xs l v = list_any-append (λ m. nat_eq v (variable m)) xs (l ∷ [])

-- one more literal, whose variable is free and not named yet
pub free-push : (free : ℕ) (xs : List ℤ) (l : ℤ) → AreFree free xs → 0 < variable l → variable l ≤ free → is_named xs (variable l) ≡ false → AreFree free (xs ++ l ∷ [])
free-push free [] l are low high new = (low, high, refl, tt)
free-push free (x ∷ xs) l are low high new =
    elim (eqb_tells (variable l) (variable x)) [
      | inl same ↦ absurd (let e : true ≡ false = rw same.0 at new in cc)
      | inr other ↦
          let apart : nat_eq (variable x) (variable l) ≡ false = elim (eqb_tells (variable x) (variable l)) [ inl same ↦ absurd (other.1 (sym same.1)) | inr o ↦ o.0 ] in
          let later : is_named xs (variable l) ≡ false = rw other.0 at new in
          (are.0, are.1, named-push xs l (variable x) ∙ rw (are.2, apart) refl, free-push free xs l are.3 low high later)
    ]

or-true : (a b : Bool) → b ≡ true → (a || (b || false)) ≡ false → ⊥
or-true true true e h = cc
or-true true false e h = cc
or-true false true e h = cc
or-true false false e h = cc

-- the last literal is free, and its variable is new
pub free-last : (free : ℕ) (xs : List ℤ) (l : ℤ) → AreFree free (xs ++ l ∷ []) → (0 < variable l) × (variable l ≤ free) × (is_named xs (variable l) ≡ false)
free-last free [] l are = (are.0, are.1, refl)
free-last free (x ∷ xs) l are =
    let rest : (0 < variable l) × (variable l ≤ free) × (is_named xs (variable l) ≡ false) = free-last free xs l are.3 in (
      rest.0,
      rest.1,
      elim (eqb_tells (variable l) (variable x)) [
        | inl same ↦ absurd (let e : (is_named xs (variable x) || (nat_eq (variable x) (variable l) || false)) ≡ false = sym (named-push xs l (variable x)) ∙ are.2 in or-true (is_named xs (variable x)) (nat_eq (variable x) (variable l)) (elim (eqb_tells (variable x) (variable l)) [ inl o ↦ o.0 | inr o ↦ absurd (o.1 (sym same.1)) ]) e)
        | inr other ↦ rw (other.0, rest.2) refl
      ],
    )
