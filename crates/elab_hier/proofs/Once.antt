-- Flags of numbers, and lists in which no number stands twice.
use Rattle.elab_hier.proofs.Common.{◌≡◌, ◌≢◌, ◌⊎◌, ◌↔◌, inl, inr, ℕ, zero, suc, ◌+◌, ◌<◌, Bool, true, false, IsTrue, List, [], ◌∷◌, ◌++◌, get_or, set, take, length, sym, ap, ◌∙◌, subst, arith}
use Rattle.elab_hier.proofs.Common.{add-one, length-set, get_or-set_same, get_or-set_other, Contains, NoneTwice, AreFlags, has_first, has_more, has_none}
use Rattle.std.proofs.lemmas.Bool.{cases_eq, false≢true}
use Rattle.std.proofs.lemmas.List.Elements.{Contains-append_left, Contains-push, Contains-push_cases}

pub taken_last : (ks : List ℕ) (i k : ℕ) → k ≡ get_or ks i k → i < length ks → take (i + 1) ks ≡ take i ks ++ k ∷ []
taken_last ks i k is less = ap (λ (n : ℕ). take n ks) (add-one i) ∙ last ks i is less where
  last : (ks : List ℕ) (i : ℕ) → k ≡ get_or ks i k → i < length ks → take (suc i) ks ≡ take i ks ++ k ∷ []
  last [] i is less = absurd (omega (arith, less))
  last (y ∷ ks) zero is less = ap (λ (z : ℕ). z ∷ []) (sym is)
  last (y ∷ ks) (suc i) is less = ap (λ (rest : List ℕ). y ∷ rest) (last ks i is (omega (arith, less)))

-- one more is set
pub flag_set : (n k : ℕ) (ks : List ℕ) (fs : List Bool) → AreFlags n ks fs → k < length fs → AreFlags n (ks ++ k ∷ []) (set fs k true)
flag_set n k ks fs h less = record { count = length-set fs k true ∙ h.count; set = λ j. at j (cases_eq j k) } where
  before : (j : ℕ) → j ≢ k → Contains (ks ++ k ∷ []) j → Contains ks j
  before j ne c = elim (Contains-push_cases ks k j c) [ inl here ↦ here | inr e ↦ absurd (ne (sym e)) ]

  at : (j : ℕ) → (j ≡ k) ⊎ (j ≢ k) → IsTrue (get_or (set fs k true) j false) ↔ Contains (ks ++ k ∷ []) j
  at j (inl e) = subst (λ (i : ℕ). IsTrue (get_or (set fs k true) i false) ↔ Contains (ks ++ k ∷ []) i) (sym e) ((λ t. Contains-push ks k), (λ c. get_or-set_same fs k true false less))
  at j (inr ne) =
      let same : get_or (set fs k true) j false ≡ get_or fs j false = get_or-set_other fs k j true false ne in
      ((λ t. Contains-append_left ks (k ∷ []) j ((h.set j).0 (sym same ∙ t))), (λ c. same ∙ (h.set j).1 (before j ne c)))

pub once_more : (ks : List ℕ) (k : ℕ) → NoneTwice ks → ¬ Contains ks k → NoneTwice (ks ++ k ∷ [])
once_more [] k h new = ((λ c. has_none k c), tt)
once_more (x ∷ ks) k h new = (
  (λ c. elim (Contains-push_cases ks k x c) [ inl here ↦ h.0 here | inr e ↦ new (subst (Contains (x ∷ ks)) (sym e) (has_first ks x)) ]),
  once_more ks k h.1 (λ c. new (has_more ks x k c)),
)

-- The loops' turns.

pub flags_on : (n i k : ℕ) (ks : List ℕ) (old new : List Bool) → k ≡ get_or ks i k → i < length ks → AreFlags n (take i ks) old → k < n → new ≡ set old k true → AreFlags n (take (i + 1) ks) new
flags_on n i k ks old new is less h small made =
    let inside : k < length old = (let count = h.count in omega (arith, count, small)) in
    subst (AreFlags n (take (i + 1) ks)) (sym made) (subst (λ (l : List ℕ). AreFlags n l (set old k true)) (sym (taken_last ks i k is less)) (flag_set n k (take i ks) old h inside))

pub once_on : (n i k : ℕ) (ks : List ℕ) (old : List Bool) → k ≡ get_or ks i k → i < length ks → AreFlags n (take i ks) old → NoneTwice (take i ks) → get_or old k false ≡ false → NoneTwice (take (i + 1) ks)
once_on n i k ks old is less h once clear = subst NoneTwice (sym (taken_last ks i k is less)) (once_more (take i ks) k once (λ c. false≢true (sym clear ∙ (h.set k).1 c)))
