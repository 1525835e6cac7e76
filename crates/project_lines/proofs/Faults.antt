-- The first fault of lines, one line after the other.
use Rattle.project_lines.proofs.Common.{◌≡◌, ℕ, ◌+◌, ◌<◌, ◌≤◌, ◌≢◌, List, [], ◌∷◌, ◌++◌, Option, Some, None, Result, Ok, Err, IsErrAnd, length, take, drop, get_or, map, refl, sym, ap, ◌∙◌, subst}
use Rattle.project_lines.proofs.Common.{arith, add-one, drop-cons, take-suc, drop_of_length-le, map-append, ProjectError, Memory, Checks, first_fault, first_of_two}

abbrev Fault : Type 0 → Type 0
Fault B = List B → ℕ → B → Option ProjectError

fault_cons : {B : Type 0} (F : Fault B) (earlier : List B) (n : ℕ) (x : B) (more : List B) → first_fault F earlier n (x ∷ more) ≡ first_of_two (F earlier n x) (first_fault F (earlier ++ x ∷ []) (n + 1) more)
unfolding first_fault
fault_cons F earlier n x more = refl

fault_nil : {B : Type 0} (F : Fault B) (earlier : List B) (n : ℕ) → first_fault F earlier n [] ≡ None
unfolding first_fault
fault_nil F earlier n = refl

-- the members from one place on are that one and those behind it
pub mapped_drop : {A B : Type 0} (v : A → B) (xs : List A) (i : ℕ) (d : A) → i < length xs → map v (drop i xs) ≡ v (get_or xs i d) ∷ map v (drop (i + 1) xs)
mapped_drop v xs i d l = ap (map v) (drop-cons xs i d l ∙ ap (λ k. get_or xs i d ∷ drop k xs) (sym (add-one i)))

pub mapped_take : {A B : Type 0} (v : A → B) (xs : List A) (i : ℕ) (d : A) → i < length xs → map v (take (i + 1) xs) ≡ map v (take i xs) ++ v (get_or xs i d) ∷ []
mapped_take v xs i d l = ap (λ k. map v (take k xs)) (add-one i) ∙ (ap (map v) (take-suc xs i d l) ∙ map-append v (take i xs) (get_or xs i d ∷ []))

pub mapped_end : {A B : Type 0} (v : A → B) (xs : List A) (i : ℕ) → length xs ≤ i → map v (drop i xs) ≡ []
mapped_end v xs i l = ap (map v) (drop_of_length-le xs l)

-- The lines up to place i are good; w is the first fault of all lines, numbered from n on.
module _ {A B : Type 0} (v : A → B) (F : Fault B) (xs : List A) (n : ℕ) (w : Option ProjectError) where
  abbrev pub Upto : ℕ → Type 0
  Upto i = first_fault F (map v (take i xs)) (n + i) (map v (drop i xs)) ≡ w

  here : (i : ℕ) (d : A) → i < length xs → Upto i → first_of_two (F (map v (take i xs)) (n + i) (v (get_or xs i d))) (first_fault F (map v (take i xs) ++ v (get_or xs i d) ∷ []) (n + i + 1) (map v (drop (i + 1) xs))) ≡ w
  here i d l h = sym (fault_cons F (map v (take i xs)) (n + i) (v (get_or xs i d)) (map v (drop (i + 1) xs))) ∙ (ap (first_fault F (map v (take i xs)) (n + i)) (sym (mapped_drop v xs i d l)) ∙ h)

  pub fault_step : (i : ℕ) (d : A) → i < length xs → F (map v (take i xs)) (n + i) (v (get_or xs i d)) ≡ None → Upto i → Upto (i + 1)
  fault_step i d l good h =
      let number : n + (i + 1) ≡ n + i + 1 = omega arith in
      ap (λ ys. first_fault F ys (n + (i + 1)) (map v (drop (i + 1) xs))) (mapped_take v xs i d l)
      ∙ (ap (λ k. first_fault F (map v (take i xs) ++ v (get_or xs i d) ∷ []) k (map v (drop (i + 1) xs))) number
      ∙ (sym (ap (λ o. first_of_two o (first_fault F (map v (take i xs) ++ v (get_or xs i d) ∷ []) (n + i + 1) (map v (drop (i + 1) xs)))) good) ∙ here i d l h))

  pub fault_here : (i : ℕ) (d : A) (e : ProjectError) → i < length xs → F (map v (take i xs)) (n + i) (v (get_or xs i d)) ≡ Some e → Upto i → w ≡ Some e
  fault_here i d e l bad h =
      sym (here i d l h) ∙ ap (λ o. first_of_two o (first_fault F (map v (take i xs) ++ v (get_or xs i d) ∷ []) (n + i + 1) (map v (drop (i + 1) xs)))) bad

  pub fault_end : (i : ℕ) → length xs ≤ i → Upto i → w ≡ None
  fault_end i l h = sym h ∙ (ap (λ ys. first_fault F (map v (take i xs)) (n + i) (map v ys)) (drop_of_length-le xs l) ∙ fault_nil F (map v (take i xs)) (n + i))

-- a check that hands on the refusal of a step
pub checks_err : {T : Type 0} (r : Result T ProjectError) (e : ProjectError) (w : Option ProjectError) → IsErrAnd r (λ x. x ≡ e) → (e ≢ Memory → w ≡ Some e) → Checks r w
checks_err (Ok x) e w h g = absurd h
checks_err (Err x) e w h g = subst (λ y. y ≢ Memory → w ≡ Some y) (sym h) g
