-- The search for a clause whose literals are all false.
use Rattle.lrat_checker.proofs.Common.{◌≡◌, ℕ, ◌+◌, ◌-◌, ◌<◌, ◌≤◌, true, List, [], length, take, drop, get_or, ℤ, pos, Some, ap, sym, ◌∙◌, subst, slice_get, arith, All, length-drop, get_or-drop}
use Rattle.lrat_checker.proofs.Common.{All-more, slice_get-get_or, slice_get_within, Known, literal, is_some_false, IsFalse, IsFirstFalsified}

-- one more literal is false
pub false-more : (known : Known) (clause : List ℤ) (i : ℕ) (l : ℤ) → l ≡ get_or clause i (pos 0) → i < length clause → All (IsFalse known) (take i clause) → is_some_false (literal known l) ≡ true → All (IsFalse known) (take (i + 1) clause)
false-more known clause i l same h all is = All-more (IsFalse known) clause i (pos 0) h all (let P : ℤ → Type 0 = IsFalse known in subst P same is)

-- an element of what is left after a drop, by its place in the whole
pub dropped-at : (xs : List (List ℤ)) (n id : ℕ) (x : List ℤ) → n ≤ id → slice_get xs id ≡ Some x → (id - n < length (drop n xs)) × (get_or (drop n xs) (id - n) [] ≡ x)
dropped-at xs n id x h at =
    let within : id < length xs = slice_get_within xs id x at in
    let got : Some (get_or xs id []) ≡ Some x = sym (slice_get-get_or xs id [] within) ∙ at in
    let sum : n + (id - n) ≡ id = omega arith in
    (simp length-drop (omega arith), get_or-drop n xs (id - n) [] ∙ rw sum cc)

-- the clause here is not falsified either
pub unfalsified-more : (known : Known) (store : List (List ℤ)) (n id : ℕ) (clause : List ℤ) → n ≤ id → slice_get store id ≡ Some clause → All (λ before. All (IsFalse known) before → ⊥) (take (id - n) (drop n store)) → (All (IsFalse known) clause → ⊥) → All (λ before. All (IsFalse known) before → ⊥) (take (id + 1 - n) (drop n store))
unfalsified-more known store n id clause h at all unlike =
    let there = dropped-at store n id clause h at in
    let next : id + 1 - n ≡ id - n + 1 = omega arith in
    let P : List ℤ → Type 0 = λ before. All (IsFalse known) before → ⊥ in
    rw next (All-more P (drop n store) (id - n) [] there.0 all (subst P (sym there.1) unlike))

pub first-falsified : (known : Known) (store : List (List ℤ)) (n id : ℕ) (clause : List ℤ) → n ≤ id → slice_get store id ≡ Some clause → All (λ before. All (IsFalse known) before → ⊥) (take (id - n) (drop n store)) → All (IsFalse known) clause → IsFirstFalsified known store n (id + 1)
first-falsified known store n id clause h at all is =
    let there = dropped-at store n id clause h at in
    record {
      place = id - n;
      number = omega arith;
      earlier = clause;
      there = slice_get-get_or (drop n store) (id - n) [] there.0 ∙ ap Some there.1;
      falsified = is;
      least = all;
    }
