-- Lists of refusals that are empty, and a signal that has bits.
use Rattle.process_cells.proofs.Common.{◌≡◌, ℕ, zero, suc, ◌<◌, ◌≤◌, List, [], ◌∷◌, map, length, refl, arith, slice_index_or}

pub map_nil : {A B : Type 0} → (f : A → B) (xs : List A) → map f xs ≡ [] → xs ≡ []
map_nil f [] e = refl
map_nil f (x ∷ xs) e = cc

-- a list that has elements stands there
pub some_known : {A : Type 0} → (xs : List (List A)) (n : ℕ) → 1 ≤ length (slice_index_or xs n []) → n < length xs
some_known [] n h = absurd (omega arith)
some_known (x ∷ xs) zero h = omega arith
some_known (x ∷ xs) (suc n) h = let rest = some_known xs n h in omega arith
