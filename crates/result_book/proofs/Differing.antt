-- Where two lists differ first.
use Rattle.result_book.proofs.Common.{◌≡◌, ◌≢◌, arith, ℕ, suc, ◌+◌, ◌-◌, ◌<◌, ◌≤◌, true, List, ◌∷◌, length, take, drop, length-drop, slice_get, Option, Some, sym, ◌∙◌, ap, subst, take_all}
use Rattle.result_book.proofs.Common.{take_more_same, get_or_from_slice_get, slice_get-get_or, slice_get_past, slice_get_within, begins_with, first_number, second_number, DifferFirst, meta_in_second}
use Rattle.result_book.proofs.Formats.{first_meta, second_parts}

-- an item that both have at the next place
pub same_more : {X : Type 0} (xs ys : List X) (i : ℕ) (x : X) → slice_get xs i ≡ Some x → slice_get ys i ≡ Some x → take i xs ≡ take i ys → take (i + 1) xs ≡ take (i + 1) ys
same_more xs ys i x at_xs at_ys same =
    take_more_same xs ys i x (slice_get_within xs i x at_xs) (slice_get_within ys i x at_ys) same (get_or_from_slice_get xs i x x at_xs ∙ sym (get_or_from_slice_get ys i x x at_ys))

-- one list goes on where the other has ended
pub differ_past : {X : Type 0} (xs ys : List X) (d : X) → length ys < length xs → slice_get xs (length ys) ≢ slice_get ys (length ys)
differ_past xs ys d longer is =
    let some = slice_get-get_or xs (length ys) d longer in
    let none = slice_get_past ys (length ys) (omega arith) in
    cc

-- both have ended
pub same_all : {X : Type 0} (xs ys : List X) (i : ℕ) → length ys ≤ i → length xs ≤ length ys → take i xs ≡ take i ys → xs ≡ ys
same_all xs ys i end shorter same = sym (take_all i xs (omega arith)) ∙ same ∙ take_all i ys end

-- behind an item that both have
pub differ_behind : (x : List ℕ) (xs ys : List (List ℕ)) (place : ℕ) (old new : Option (List ℕ)) → DifferFirst xs ys place old new → DifferFirst (x ∷ xs) (x ∷ ys) (place + 1) old new
differ_behind x xs ys place old new differ =
    let more : place + 1 ≡ suc place = omega arith in
    subst (λ (p : ℕ). DifferFirst (x ∷ xs) (x ∷ ys) p old new) (sym more) (record { same = ap (λ (l : List (List ℕ)). x ∷ l) differ.same; old_is = differ.old_is; new_is = differ.new_is; differ = differ.differ })

-- What a book of the first format keeps and what a campaign has are the same, or differ first, as they are behind their numbers.

-- all items behind the first one
abbrev rest : List (List ℕ) → List (List ℕ)
rest xs = take (length xs - 1) (drop 1 xs)

rest_is : (xs ys : List (List ℕ)) → xs ≡ ys → rest xs ≡ drop 1 ys
rest_is xs ys same = take_all (length xs - 1) (drop 1 xs) (omega (arith, length-drop 1 xs)) ∙ ap (drop 1) same

pub meta_same : (meta wanted kept derived : List (List ℕ)) → kept ≡ meta → derived ≡ wanted → begins_with first_number meta ≡ true → begins_with second_number wanted ≡ true → rest kept ≡ rest derived → meta_in_second meta ≡ wanted
meta_same meta wanted kept derived kept_is derived_is old now same =
    let behind : drop 1 meta ≡ drop 1 wanted = sym (rest_is kept meta kept_is) ∙ same ∙ rest_is derived wanted derived_is in
    (first_meta meta old).0 ∙ ap (λ (l : List (List ℕ)). second_number ∷ l) behind ∙ sym (second_parts wanted now).0

pub meta_differ : (meta wanted kept derived : List (List ℕ)) (place : ℕ) (was new : Option (List ℕ)) → kept ≡ meta → derived ≡ wanted → begins_with first_number meta ≡ true → begins_with second_number wanted ≡ true
    → DifferFirst (rest kept) (rest derived) place was new → DifferFirst (meta_in_second meta) wanted (place + 1) was new
meta_differ meta wanted kept derived place was new kept_is derived_is old now differ =
    let kept_parts : second_number ∷ rest kept ≡ meta_in_second meta = ap (λ (l : List (List ℕ)). second_number ∷ l) (rest_is kept meta kept_is) ∙ sym (first_meta meta old).0 in
    let derived_parts : second_number ∷ rest derived ≡ wanted = ap (λ (l : List (List ℕ)). second_number ∷ l) (rest_is derived wanted derived_is) ∙ sym (second_parts wanted now).0 in
    subst (λ (l : List (List ℕ)). DifferFirst l wanted (place + 1) was new) kept_parts
    (subst (λ (l : List (List ℕ)). DifferFirst (second_number ∷ rest kept) l (place + 1) was new) derived_parts (differ_behind second_number (rest kept) (rest derived) place was new differ))
