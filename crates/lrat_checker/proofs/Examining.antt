-- The literals of a clause that aren't false.
use Rattle.lrat_checker.proofs.Common.{◌≡◌, ℕ, ◌+◌, ◌<◌, Bool, true, false, not, List, [], ◌∷◌, length, take, drop, get_or, ℤ, pos, Option, Some, None, is_some, refl, sym, ◌∙◌, option_to_list}
use Rattle.lrat_checker.proofs.Common.{take-append-drop, filter-append, filter_more, Known, literal, is_some_false, left, IsUnit, IsFalsified}

-- two places aren't false, so the clause is neither falsified nor unit
pub two_left : (known : Known) (clause : List ℤ) (i : ℕ) (first : Option ℤ) (l : ℤ) → l ≡ get_or clause i (pos 0) → i < length clause → option_to_list first ≡ left known (take i clause) → is_some first ≡ true → is_some_false (literal known l) ≡ false → (IsFalsified known clause → ⊥) × ((m : ℤ) → IsUnit known clause m → ⊥)
two_left known clause i None l same h is some open_ = absurd (let e : false ≡ true = some in cc)
two_left known clause i (Some a) l same h is some open_ =
    let test : ℤ → Bool = λ m. not (is_some_false (literal known m)) in
    let here : left known (take (i + 1) clause) ≡ a ∷ l ∷ [] = filter_more test clause i (pos 0) h ∙ rw (← same, ← is, open_) refl in
    let all : left known clause ≡ a ∷ l ∷ left known (drop (i + 1) clause) = rw (take-append-drop (i + 1) clause, here) at (filter-append test (take (i + 1) clause) (drop (i + 1) clause)) in
    (λ none. let e : a ∷ l ∷ left known (drop (i + 1) clause) ≡ [] = sym all ∙ none in cc, λ m unit. let e : a ∷ l ∷ left known (drop (i + 1) clause) ≡ m ∷ [] = sym all ∙ unit.alone in cc)
