-- Which signals have a writer, told one after the other.
use Rattle.elab_items.proofs.Common.{◌≡◌, ◌≢◌, ◌⊎◌, ◌↔◌, inl, inr, ℕ, ◌<◌, Bool, false, IsTrue, List, [], ◌∷◌, ◌++◌, get_or, length, sym, ◌∙◌, subst, arith, length-append, cases_eq}
use Rattle.elab_items.proofs.Common.{get_or_append_left, get_or_push, Building, HasWriter}

pub tell_more : (b : Building) (inputs written : List Bool) (w : Bool) (n : ℕ) → n ≡ length written → ((k : ℕ) → k < length written → IsTrue (get_or written k false) ↔ HasWriter b inputs k) → (IsTrue w ↔ HasWriter b inputs n)
    → (k : ℕ) → k < length (written ++ w ∷ []) → IsTrue (get_or (written ++ w ∷ []) k false) ↔ HasWriter b inputs k
tell_more b inputs written w n is h last k less = go (cases_eq k (length written)) where
  go : (k ≡ length written) ⊎ (k ≢ length written) → IsTrue (get_or (written ++ w ∷ []) k false) ↔ HasWriter b inputs k
  go (inl e) = subst (λ (x : Bool). IsTrue x ↔ HasWriter b inputs k) (sym (get_or_push written w false k (sym e))) (subst (λ (j : ℕ). IsTrue w ↔ HasWriter b inputs j) (is ∙ sym e) last)
  go (inr ne) = let below : k < length written = omega (arith, less, length-append written (w ∷ [])) in subst (λ (x : Bool). IsTrue x ↔ HasWriter b inputs k) (sym (get_or_append_left written (w ∷ []) false k below)) (h k below)
