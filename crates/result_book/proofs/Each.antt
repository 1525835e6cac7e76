-- What each of some numbers has, in a list.
use Rattle.result_book.proofs.Common.{◌≡◌, ◌≢◌, arith, ℕ, zero, suc, ◌+◌, ◌<◌, ◌≤◌, List, ◌∷◌, length, map, set, slice_get, replicate, Some, refl, sym, ◌∙◌, ap, each_from}

pub length-each_from : {X : Type 0} (f : ℕ → X) (from n : ℕ) → length (each_from f from n) ≡ n
length-each_from f from zero = refl
length-each_from f from (suc n) = ap suc (length-each_from f (from + 1) n)

-- where two functions agree from here on
pub each_from-same : {X : Type 0} (f g : ℕ → X) (from n : ℕ) → ((k : ℕ) → from ≤ k → g k ≡ f k) → each_from g from n ≡ each_from f from n
each_from-same f g from zero same = refl
each_from-same f g from (suc n) same = rw (same from (omega arith), each_from-same f g (from + 1) n (λ k above. same k (omega (arith, above)))) refl

-- where they agree on all but one
each_from-set : {X : Type 0} (f g : ℕ → X) (from n k : ℕ) → k < n → ((j : ℕ) → j ≢ from + k → g j ≡ f j) → each_from g from n ≡ set (each_from f from n) k (g (from + k))
each_from-set f g from zero k inside others = absurd (omega arith)
each_from-set f g from (suc n) zero inside others =
    let here : from + 0 ≡ from = omega arith in
    let rest : each_from g (from + 1) n ≡ each_from f (from + 1) n = each_from-same f g (from + 1) n (λ j above. others j (λ same. omega (arith, above, same))) in
    ap (λ (t : List _). g from ∷ t) rest ∙ ap (λ (j : ℕ). g j ∷ each_from f (from + 1) n) (sym here)
each_from-set f g from (suc n) (suc k) inside others =
    let place : (from + 1) + k ≡ from + suc k = omega arith in
    let first : g from ≡ f from = others from (λ same. omega (arith, same)) in
    rw (first, each_from-set f g (from + 1) n k (omega arith) (λ j other. others j (λ same. other (same ∙ sym place))), place) refl

each_from-at : {X : Type 0} (f : ℕ → X) (from n k : ℕ) → k < n → slice_get (each_from f from n) k ≡ Some (f (from + k))
each_from-at f from zero k inside = absurd (omega arith)
each_from-at f from (suc n) zero inside = let here : from + 0 ≡ from = omega arith in rw here refl
each_from-at f from (suc n) (suc k) inside =
    let place : (from + 1) + k ≡ from + suc k = omega arith in
    each_from-at f (from + 1) n k (omega arith) ∙ ap (λ (j : ℕ). Some (f j)) place

-- the same of the numbers from 0 on
pub each_set : {X : Type 0} (f g : ℕ → X) (n k : ℕ) → k < n → ((j : ℕ) → j ≢ k → g j ≡ f j) → each_from g 0 n ≡ set (each_from f 0 n) k (g k)
each_set f g n k inside others =
    let place : 0 + k ≡ k = omega arith in
    each_from-set f g 0 n k inside (λ j other. others j (λ same. other (same ∙ sym place))) ∙ ap (λ (j : ℕ). set (each_from f 0 n) k (g j)) place

pub each_at : {X : Type 0} (f : ℕ → X) (n k : ℕ) → k < n → slice_get (each_from f 0 n) k ≡ Some (f k)
each_at f n k inside =
    let place : 0 + k ≡ k = omega arith in
    each_from-at f 0 n k inside ∙ ap (λ (j : ℕ). Some (f j)) place

-- where all have the same
pub each_from-all : {X : Type 0} (f : ℕ → X) (x : X) (from n : ℕ) → ((k : ℕ) → f k ≡ x) → each_from f from n ≡ replicate n x
each_from-all f x from zero same = refl
each_from-all f x from (suc n) same = rw (same from, each_from-all f x (from + 1) n same) refl

pub map-each_from : {X Y : Type 0} (h : X → Y) (f : ℕ → X) (from n : ℕ) → map h (each_from f from n) ≡ each_from (λ k. h (f k)) from n
map-each_from h f from zero = refl
map-each_from h f from (suc n) = ap (λ (t : List _). h (f from) ∷ t) (map-each_from h f (from + 1) n)
