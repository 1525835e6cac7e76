-- Flags that are told again.
use Rattle.elab_items.proofs.Common.{◌≡◌, ◌≢◌, ◌⊎◌, ◌↔◌, inl, inr, ℕ, ◌+◌, ◌<◌, ◌≤◌, Bool, false, IsTrue, List, [], ◌∷◌, ◌++◌, get_or, set, take, length, refl, sym, ap, ◌∙◌, subst, arith, length-set}
use Rattle.elab_items.proofs.Common.{get_or-set_same, get_or-set_other, Contains, cases_eq, take_more, Contains-append_cases, Building, is_written, AreRenewed, AreSound, HasWriter, has_cases}
use Rattle.elab_items.proofs.Common.{has_none}

not_among : (n k : ℕ) → k ≢ n → Contains (n ∷ []) k → ⊥
not_among n k other c = elim (has_cases [] n k c) [
  | inl e ↦ absurd (other (sym e))
  | inr none ↦ has_none k none
]

pub one_renewed : (b : Building) (inputs old new : List Bool) (n : ℕ) (w : Bool) → length old ≡ length b.signals → n < length b.signals → (IsTrue w ↔ HasWriter b inputs n) → new ≡ set old n w → AreRenewed b inputs (n ∷ []) old new
one_renewed b inputs old new n w count known tells is =
    let there : n < length old = omega (arith, count, known) in
    subst (AreRenewed b inputs (n ∷ []) old) (sym is) (record { count = length-set old n w; each = λ k less. go k (cases_eq k n) }) where
      go : (k : ℕ) → (k ≡ n) ⊎ (k ≢ n) → (IsTrue (is_written (set old n w) k) ↔ HasWriter b inputs k) ⊎ ((¬ Contains (n ∷ []) k) × (is_written (set old n w) k ≡ is_written old k))
      go k (inl e) = inl (subst (λ (x : Bool). IsTrue x ↔ HasWriter b inputs k) (sym (ap (λ (j : ℕ). is_written (set old n w) j) e ∙ get_or-set_same old n w false (omega (arith, count, known)))) (subst (λ (j : ℕ). IsTrue w ↔ HasWriter b inputs j) (sym e) tells))
      go k (inr other) = inr (not_among n k other, get_or-set_other old n k w false other)

pub none_renewed : (b : Building) (inputs written : List Bool) (n : ℕ) → length b.signals ≤ n → AreRenewed b inputs (n ∷ []) written written
none_renewed b inputs written n past = record { count = refl; each = λ k less. inr (not_among n k (λ e. absurd (omega (arith, less, past, e))), refl) }

-- a flag that is set stays
pub set_renewed : (b : Building) (inputs written : List Bool) (n : ℕ) → AreSound b inputs written → n < length b.signals → IsTrue (is_written written n) → AreRenewed b inputs (n ∷ []) written written
set_renewed b inputs written n sound known set = record { count = refl; each = λ k less. go k (cases_eq k n) } where
  go : (k : ℕ) → (k ≡ n) ⊎ (k ≢ n) → (IsTrue (is_written written k) ↔ HasWriter b inputs k) ⊎ ((¬ Contains (n ∷ []) k) × (is_written written k ≡ is_written written k))
  go k (inl e) = inl (subst (λ (j : ℕ). IsTrue (is_written written j) ↔ HasWriter b inputs j) (sym e) (λ s. sound n known s, λ w. set))
  go k (inr other) = inr (not_among n k other, refl)

pub renewed_sound : (b : Building) (inputs : List Bool) (ks : List ℕ) (old new : List Bool) → AreRenewed b inputs ks old new → AreSound b inputs old → AreSound b inputs new
renewed_sound b inputs ks old new h sound k less = go (h.each k less) where
  go : (IsTrue (is_written new k) ↔ HasWriter b inputs k) ⊎ ((¬ Contains ks k) × (is_written new k ≡ is_written old k)) → IsTrue (is_written new k) → HasWriter b inputs k
  go (inl tells) set = tells.0 set
  go (inr kept) set = sound k less (subst IsTrue kept.1 set)

pub start_renewed : (b : Building) (inputs written : List Bool) → AreRenewed b inputs [] written written
start_renewed b inputs written = record { count = refl; each = λ k less. inr (has_none k, refl) }

then_renewed : (b : Building) (inputs : List Bool) (xs ys : List ℕ) (old mid new : List Bool) → AreRenewed b inputs xs old mid → AreRenewed b inputs ys mid new → AreRenewed b inputs (xs ++ ys) old new
then_renewed b inputs xs ys old mid new h r = record { count = r.count ∙ h.count; each = λ k less. go k (h.each k less) (r.each k less) } where
  apart : (k : ℕ) → (¬ Contains xs k) → (¬ Contains ys k) → Contains (xs ++ ys) k → ⊥
  apart k x y c = elim (Contains-append_cases xs ys k c) [ inl m ↦ x m | inr m ↦ y m ]

  go : (k : ℕ) → (IsTrue (is_written mid k) ↔ HasWriter b inputs k) ⊎ ((¬ Contains xs k) × (is_written mid k ≡ is_written old k)) → (IsTrue (is_written new k) ↔ HasWriter b inputs k) ⊎ ((¬ Contains ys k) × (is_written new k ≡ is_written mid k))
      → (IsTrue (is_written new k) ↔ HasWriter b inputs k) ⊎ ((¬ Contains (xs ++ ys) k) × (is_written new k ≡ is_written old k))
  go k first (inl tells) = inl tells
  go k (inl tells) (inr same) = inl (subst (λ (x : Bool). IsTrue x ↔ HasWriter b inputs k) (sym same.1) tells)
  go k (inr before) (inr same) = inr (apart k before.0 same.0, same.1 ∙ before.1)

pub more_renewed : (b : Building) (inputs : List Bool) (ks : List ℕ) (i x d : ℕ) (old mid new : List Bool) → i < length ks → x ≡ get_or ks i d → AreRenewed b inputs (take i ks) old mid → AreRenewed b inputs (x ∷ []) mid new → AreRenewed b inputs (take (i + 1) ks) old new
more_renewed b inputs ks i x d old mid new less at h r =
    let next = subst (λ (n : ℕ). AreRenewed b inputs (n ∷ []) mid new) at r in
    subst (λ (l : List ℕ). AreRenewed b inputs l old new) (sym (take_more ks i d less)) (then_renewed b inputs (take i ks) (get_or ks i d ∷ []) old mid new h next)
