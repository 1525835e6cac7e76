-- Truths of two and of many.
use Rattle.tag_script.proofs.Common.{◌≡◌, Bool, true, false, ◌&&◌, List, [], ◌∷◌, ◌++◌, map, refl, sym, true≢false, all_true, and_from}

pub left_true : (a b : Bool) → (a && b) ≡ true → a ≡ true
left_true true b h = refl
left_true false b h = h

pub right_true : (a b : Bool) → (a && b) ≡ true → b ≡ true
right_true true b h = h
right_true false b h = absurd (true≢false (sym h))

pub append_true : {A : Type 0} (f : A → Bool) (xs ys : List A) → all_true (map f xs) ≡ true → all_true (map f ys) ≡ true → all_true (map f (xs ++ ys)) ≡ true
append_true f [] ys h k = k
append_true f (x ∷ xs) ys h k =
    and_from (f x) (all_true (map f (xs ++ ys))) (left_true (f x) (all_true (map f xs)) h) (append_true f xs ys (right_true (f x) (all_true (map f xs)) h) k)
