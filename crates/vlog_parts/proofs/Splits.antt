-- The items on top of a stack, and those below.
use Rattle.std.proofs.Common.{◌≡◌, ℕ, ◌-◌, ◌<◌, ◌≤◌, List, ◌++◌, length, take, drop, reverse, ◌⊎◌, inl, inr, sym, ap, ◌∙◌, arith}
use Rattle.std.proofs.lemmas.List.{reverse-append, length-reverse, length-drop, take_at, take_all, drop_at, drop_all, take-append-drop}
use Rattle.std.proofs.lemmas.Bool.{cases_lt}

halves : {T : Type 0} (xs : List T) (at : ℕ) → reverse xs ≡ reverse (drop at xs) ++ reverse (take at xs)
halves xs at = ap reverse (sym (take-append-drop at xs)) ∙ reverse-append (take at xs) (drop at xs)

length_top : {T : Type 0} (xs : List T) (at : ℕ) → length (reverse (drop at xs)) ≡ length xs - at
length_top xs at = length-reverse (drop at xs) ∙ length-drop at xs

pub top_is : {T : Type 0} (xs ys : List T) (count at : ℕ) → at ≡ length xs - count → ys ≡ drop at xs → reverse ys ≡ take count (reverse xs)
top_is {T} xs ys count at e is = ap reverse is ∙ go (cases_lt (length xs) count)
  where
    go : (length xs < count) ⊎ (count ≤ length xs) → reverse (drop at xs) ≡ take count (reverse xs)
    go (inl h) =
        let zero_at : at ≡ 0 = omega arith in
        ap (λ (n : ℕ). reverse (drop n xs)) zero_at ∙ sym (take_all count (reverse xs) (omega (arith, length-reverse xs)))
    go (inr h) = sym (ap (take count) (halves xs at) ∙ take_at (reverse (drop at xs)) (reverse (take at xs)) count (omega (arith, length_top xs at)))

pub below_is : {T : Type 0} (xs ys : List T) (count at : ℕ) → at ≡ length xs - count → ys ≡ take at xs → reverse ys ≡ drop count (reverse xs)
below_is {T} xs ys count at e is = ap reverse is ∙ go (cases_lt (length xs) count)
  where
    go : (length xs < count) ⊎ (count ≤ length xs) → reverse (take at xs) ≡ drop count (reverse xs)
    go (inl h) =
        let zero_at : at ≡ 0 = omega arith in
        ap (λ (n : ℕ). reverse (take n xs)) zero_at ∙ sym (drop_all count (reverse xs) (omega (arith, length-reverse xs)))
    go (inr h) = sym (ap (drop count) (halves xs at) ∙ drop_at (reverse (drop at xs)) (reverse (take at xs)) count (omega (arith, length_top xs at)))
