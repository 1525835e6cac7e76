-- With a lemma's literals false, the false literals are exactly the lemma's.
use Rattle.lrat_checker.proofs.Common.{◌≡◌, ℕ, zero, suc, Bool, true, false, not, List, [], ◌∷◌, ℤ, pos, negsuc, Some, option_map, refl, ap, sym, ◌∙◌, inl, inr, ◌⊎◌, subst, nat_eq, arith}
use Rattle.lrat_checker.proofs.Common.{if◌then◌else◌, All, Contains, eqb_tells, Contains-append_right, All-weaker, variable, Known, none, with_value, with_false, is_positive, literal, is_some_false}
use Rattle.lrat_checker.proofs.Common.{is_named, AreFree, IsWithin, IsFalse}

-- a literal is told by its variable and its sign
pub same_literal : (l m : ℤ) → variable l ≡ variable m → is_positive l ≡ is_positive m → l ≡ m
same_literal (pos a) (pos b) v s = ap pos v
same_literal (pos a) (negsuc b) v s = cc
same_literal (negsuc a) (pos b) v s = cc
same_literal (negsuc a) (negsuc b) v s = let e : a ≡ b = omega (arith, v) in ap negsuc e

-- a literal's value in an assignment with one more value
pub literal-with : (known : Known) (v : ℕ) (b : Bool) (l : ℤ) → literal (with_value known v b) l ≡ (if nat_eq (variable l) v then Some (if is_positive l then b else not b) else literal known l)
literal-with known v b (pos n) = refl
literal-with known v b (negsuc n) = elim (nat_eq (suc n) v) as (λ (t : Bool). option_map not (if t then Some b else known (suc n)) ≡ (if t then Some (not b) else option_map not (known (suc n)))) [ true ↦ refl | false ↦ refl ]

-- a literal's value hangs on its variable's alone
pub literal-same : (known other : Known) (l : ℤ) → known (variable l) ≡ other (variable l) → literal known l ≡ literal other l
literal-same known other (pos n) e = e
literal-same known other (negsuc n) e = ap (option_map not) e

-- a variable that no literal names keeps its value
pub with_false-other : (known : Known) (xs : List ℤ) (v : ℕ) → is_named xs v ≡ false → with_false known xs v ≡ known v
with_false-other known [] v h = refl
with_false-other known (x ∷ xs) v h = elim (eqb_tells v (variable x)) [
  | inl same ↦ absurd (let wrong : true ≡ false = rw same.0 at h in cc)
  | inr other ↦ with_false-other (with_value known (variable x) (not (is_positive x))) xs v (rw other.0 at h) ∙ rw other.0 refl
]

-- the sign under which a literal is false
opposite : (a b : Bool) → is_some_false (Some (if a then not b else not (not b))) ≡ true → a ≡ b
opposite true true h = refl
opposite true false h = cc
opposite false true h = cc
opposite false false h = refl

opposite-self : (a : Bool) → is_some_false (Some (if a then not a else not (not a))) ≡ true
opposite-self true = refl
opposite-self false = refl

pub false-cases : (known : Known) (xs : List ℤ) (l : ℤ) → IsFalse (with_false known xs) l → Contains xs l ⊎ IsFalse known l
false-cases known [] l h = inr h
false-cases known (x ∷ xs) l h = elim (false-cases (with_value known (variable x) (not (is_positive x))) xs l h) [
  | inl later ↦ inl (Contains-append_right (x ∷ []) xs l later)
  | inr here ↦ elim (eqb_tells (variable l) (variable x)) [
    | inl same ↦
        let at : is_some_false (if nat_eq (variable l) (variable x) then Some (if is_positive l then not (is_positive x) else not (not (is_positive x))) else literal known l) ≡ true = rw literal-with at here in
        let sign : is_some_false (Some (if is_positive l then not (is_positive x) else not (not (is_positive x)))) ≡ true = rw same.0 at at in
        inl (0, omega arith, sym (same_literal l x same.1 (opposite (is_positive l) (is_positive x) sign)))
    | inr other ↦
        let at : is_some_false (if nat_eq (variable l) (variable x) then Some (if is_positive l then not (is_positive x) else not (not (is_positive x))) else literal known l) ≡ true = rw literal-with at here in
        inr (rw other.0 at at)
  ]
]

pub false-from_in : (free : ℕ) (known : Known) (xs : List ℤ) (l : ℤ) → AreFree free xs → Contains xs l → IsFalse (with_false known xs) l
false-from_in free known [] l are (k, h, e) = absurd (omega (arith, h))
false-from_in free known (x ∷ xs) l are (zero, h, e) =
    let own : Known = with_value known (variable x) (not (is_positive x)) in
    let kept : with_false own xs (variable x) ≡ own (variable x) = with_false-other own xs (variable x) are.2 in
    let P : ℤ → Type 0 = IsFalse (with_false own xs) in
    let same : nat_eq (variable x) (variable x) ≡ true = elim (eqb_tells (variable x) (variable x)) [ inl is ↦ is.0 | inr isnt ↦ absurd (isnt.1 refl) ] in
    subst P e (rw (literal-same (with_false own xs) own x kept, literal-with known (variable x) (not (is_positive x)) x, same) (opposite-self (is_positive x)))
false-from_in free known (x ∷ xs) l are (suc k, h, e) = false-from_in free (with_value known (variable x) (not (is_positive x))) xs l are.3 (k, omega (arith, h), e)

no_false : (l : ℤ) → IsFalse none l → ⊥
no_false (pos n) h = let e : false ≡ true = h in cc
no_false (negsuc n) h = let e : false ≡ true = h in cc

-- all literals of a clause are false exactly where it is within the lemma
pub within-from_false : (lemma clause : List ℤ) → All (IsFalse (with_false none lemma)) clause → IsWithin clause lemma
within-from_false lemma clause all = All-weaker (IsFalse (with_false none lemma)) (Contains lemma) (λ l h. elim (false-cases none lemma l h) [ inl in' ↦ in' | inr never ↦ absurd (no_false l never) ]) clause all

pub false-from_within : (free : ℕ) (lemma clause : List ℤ) → AreFree free lemma → IsWithin clause lemma → All (IsFalse (with_false none lemma)) clause
false-from_within free lemma clause are within = All-weaker (Contains lemma) (IsFalse (with_false none lemma)) (λ l in'. false-from_in free none lemma l are in') clause within
