-- The values of the literals of a trail.
use Rattle.sat_solver.proofs.Common.{◌≡◌, ◌≢◌, ℕ, zero, suc, ◌+◌, ◌-◌, ◌<◌, ◌≤◌, Bool, List, [], ◌∷◌, ◌++◌, length, take, ℤ, pos, Option, Some, None, refl, ap, sym, ◌∙◌, inl, inr, arith, eqb_tells}
use Rattle.sat_solver.proofs.Common.{take_more, variable, Known, none, with_true, is_positive, with_all, assigned, literal_at, AreApart}

pub with_all-append : (known : Known) (xs ys : List ℤ) → with_all known (xs ++ ys) ≡ with_all (with_all known xs) ys
with_all-append known [] ys = refl
with_all-append known (x ∷ xs) ys = with_all-append (with_true known x) xs ys

-- the assignment of one more literal of a trail
pub assigned-more : (literals : List ℤ) (p : ℕ) → p < length literals → assigned (take (p + 1) literals) ≡ with_true (assigned (take p literals)) (literal_at literals p)
assigned-more literals p h = rw (take_more literals p (pos 0) h) (with_all-append none (take p literals) (literal_at literals p ∷ []))

pub with_true-same : (known : Known) (l : ℤ) → with_true known l (variable l) ≡ Some (is_positive l)
with_true-same known l = elim (eqb_tells (variable l) (variable l)) [ inl same ↦ rw same.0 refl | inr other ↦ absurd (other.1 refl) ]

pub with_true-other : (known : Known) (l : ℤ) (v : ℕ) → v ≢ variable l → with_true known l v ≡ known v
with_true-other known l v h = elim (eqb_tells v (variable l)) [ inl same ↦ absurd (h same.1) | inr other ↦ rw other.0 refl ]

-- a value stays while the trail grows
pub assigned-kept : (limit : ℕ) (literals : List ℤ) (n k v : ℕ) (b : Bool) → AreApart limit literals → n + k ≤ length literals → assigned (take n literals) v ≡ Some b → assigned (take (n + k) literals) v ≡ Some b
assigned-kept limit literals n zero v b apart h is = rw (Rattle.std.proofs.Common.add-zero) is
assigned-kept limit literals n (suc k) v b apart h is =
    let before : assigned (take (n + k) literals) v ≡ Some b = assigned-kept limit literals n k v b apart (omega (arith, h)) is in
    let place : n + suc k ≡ n + k + 1 = omega arith in
    let other : v ≢ variable (literal_at literals (n + k)) = λ e. let none_ : None ≡ Some b = sym (apart.open_ (n + k) (omega (arith, h))) ∙ ap (assigned (take (n + k) literals)) (sym e) ∙ before in cc in
    rw (place, assigned-more literals (n + k) (omega (arith, h))) (with_true-other (assigned (take (n + k) literals)) (literal_at literals (n + k)) v other ∙ before)

-- the value of a literal's variable once the literal stands on the trail
pub assigned-at : (limit : ℕ) (literals : List ℤ) (p n : ℕ) → AreApart limit literals → p < n → n ≤ length literals → assigned (take n literals) (variable (literal_at literals p)) ≡ Some (is_positive (literal_at literals p))
assigned-at limit literals p n apart h k =
    let here : assigned (take (p + 1) literals) (variable (literal_at literals p)) ≡ Some (is_positive (literal_at literals p)) = rw (assigned-more literals p (omega arith)) (with_true-same (assigned (take p literals)) (literal_at literals p)) in
    let place : p + 1 + (n - (p + 1)) ≡ n = omega arith in
    rw place at (assigned-kept limit literals (p + 1) (n - (p + 1)) (variable (literal_at literals p)) (is_positive (literal_at literals p)) apart (omega arith) here)

-- a variable that a literal further on names is open
pub open-before : (limit : ℕ) (literals : List ℤ) (p n : ℕ) → AreApart limit literals → n ≤ p → p < length literals → assigned (take n literals) (variable (literal_at literals p)) ≡ None
open-before limit literals p n apart h k = is_none (assigned (take n literals) (variable (literal_at literals p))) (λ b is.
    let later : assigned (take p literals) (variable (literal_at literals p)) ≡ Some b =
    (let place : n + (p - n) ≡ p = omega arith in rw place at (assigned-kept limit literals n (p - n) (variable (literal_at literals p)) b apart (omega arith) is)) in
    let wrong : None ≡ Some b = sym (apart.open_ p k) ∙ later in cc) where
      is_none : (o : Option Bool) → ((b : Bool) → o ≡ Some b → ⊥) → o ≡ None
      is_none None f = refl
      is_none (Some b) f = absurd (f b refl)

-- two places of a trail have two variables
pub places-apart : (limit : ℕ) (literals : List ℤ) (p q : ℕ) → AreApart limit literals → p < q → q < length literals → variable (literal_at literals p) ≢ variable (literal_at literals q)
places-apart limit literals p q apart h k e =
    let wrong : None ≡ Some (is_positive (literal_at literals p)) = sym (apart.open_ q k) ∙ ap (assigned (take q literals)) (sym e) ∙ assigned-at limit literals p q apart h (omega arith) in
    cc

-- where a variable has a value, a literal gave it
pub place-of : (literals : List ℤ) (n v : ℕ) (b : Bool) → n ≤ length literals → assigned (take n literals) v ≡ Some b → (p : ℕ) × (p < n) × (variable (literal_at literals p) ≡ v) × (is_positive (literal_at literals p) ≡ b)
place-of literals zero v b h is = absurd (let wrong : None ≡ Some b = is in cc)
place-of literals (suc n) v b h is =
    let next : suc n ≡ n + 1 = omega arith in
    let at_next : with_true (assigned (take n literals)) (literal_at literals n) v ≡ Some b = rw (next, assigned-more literals n (omega (arith, h))) at is in
    elim (eqb_tells v (variable (literal_at literals n))) [
      | inl same ↦ (n, omega arith, sym same.1, let e : Some (is_positive (literal_at literals n)) ≡ Some b = rw same.0 at at_next in cc)
      | inr other ↦
          let before = place-of literals n v b (omega (arith, h)) (sym (with_true-other (assigned (take n literals)) (literal_at literals n) v other.1) ∙ at_next) in
          (before.0, omega (arith, before.1), before.2, before.3)
    ]
