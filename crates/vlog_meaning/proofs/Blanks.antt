-- Lists that are empty.
use Rattle.vlog_meaning.proofs.Common.{◌≡◌, List, [], ◌∷◌, ◌++◌, refl, Fault, or_else}

pub left_nil : {A : Type 0} (xs ys : List A) → xs ++ ys ≡ [] → xs ≡ []
left_nil [] ys e = refl
left_nil (x ∷ xs) ys e = cc

pub right_nil : {A : Type 0} (xs ys : List A) → xs ++ ys ≡ [] → ys ≡ []
right_nil [] ys e = e
right_nil (x ∷ xs) ys e = cc

pub these_nil : (xs ys : List Fault) → or_else xs ys ≡ [] → xs ≡ []
these_nil [] ys e = refl
these_nil (x ∷ xs) ys e = cc

pub those_nil : (xs ys : List Fault) → or_else xs ys ≡ [] → ys ≡ []
those_nil [] ys e = e
those_nil (x ∷ xs) ys e = cc
