-- The words of a mutation without those that were given up, one place after the other.
use Rattle.result_book.proofs.Common.{◌≡◌, arith, ℕ, zero, suc, ◌+◌, ◌<◌, ◌≤◌, Bool, true, false, List, [], ◌∷◌, length, set, Option, None, Some, refl, sym, ◌∙◌, ap, if◌then◌else◌, slice_index}
use Rattle.result_book.proofs.Common.{unwrap_or, slice_get_within, word_at, is_given_up, kept_word, kept_words, without_one}
use Rattle.std.specs.Prelude.{slice_get}

-- the words where it is done in so many places
abbrev pub kept_first : ℕ → ℕ → List (Option ℕ) → List ℕ → List (Option ℕ)
kept_first zero limit words bounds = words
kept_first (suc n) limit (word ∷ words) (bound ∷ bounds) = kept_word limit word bound ∷ kept_first n limit words bounds
kept_first (suc n) limit words bounds = words

-- a place has its word before
pub first_at : (n limit : ℕ) (words : List (Option ℕ)) (bounds : List ℕ) → word_at (kept_first n limit words bounds) n ≡ word_at words n
first_at zero limit words bounds = refl
first_at (suc n) limit [] [] = refl
first_at (suc n) limit [] (b ∷ bounds) = refl
first_at (suc n) limit (w ∷ words) [] = refl
first_at (suc n) limit (w ∷ words) (b ∷ bounds) = first_at n limit words bounds

-- and loses it there where it was given up
first_set : (n limit : ℕ) (words : List (Option ℕ)) (bounds : List ℕ) → n < length words → n < length bounds
    → kept_first (suc n) limit words bounds ≡ set (kept_first n limit words bounds) n (kept_word limit (word_at words n) (slice_index bounds n))
first_set n limit [] bounds some many = absurd (omega (arith, some))
first_set n limit (w ∷ words) [] some many = absurd (omega (arith, many))
first_set zero limit (w ∷ words) (b ∷ bounds) some many = refl
first_set (suc n) limit (w ∷ words) (b ∷ bounds) some many = ap (λ (l : List (Option ℕ)). kept_word limit w b ∷ l) (first_set n limit words bounds (omega (arith, some)) (omega (arith, many)))

-- else all stay
first_same : (n limit : ℕ) (words : List (Option ℕ)) (bounds : List ℕ) → n < length bounds → kept_word limit (word_at words n) (slice_index bounds n) ≡ word_at words n → kept_first (suc n) limit words bounds ≡ kept_first n limit words bounds
first_same n limit words [] many is = absurd (omega (arith, many))
first_same zero limit [] (b ∷ bounds) many is = refl
first_same (suc n) limit [] (b ∷ bounds) many is = refl
first_same zero limit (w ∷ words) (b ∷ bounds) many is = ap (λ (o : Option ℕ). o ∷ words) is
first_same (suc n) limit (w ∷ words) (b ∷ bounds) many is = ap (λ (l : List (Option ℕ)). kept_word limit w b ∷ l) (first_same n limit words bounds (omega (arith, many)) is)

more_is : (n : ℕ) → n + 1 ≡ suc n
more_is n = omega arith

pub inside_by : (o : Option (Option ℕ)) (word : ℕ) → unwrap_or o None ≡ Some word → o ≡ Some (Some word)
inside_by None word at = absurd (let never : None ≡ Some word = at in cc)
inside_by (Some w) word at = ap Some at

step_by : (n limit : ℕ) (words : List (Option ℕ)) (bounds : List ℕ) (word : ℕ) → n < length bounds → word_at words n ≡ Some word → (b : Bool) → is_given_up limit word (slice_index bounds n) ≡ b
    → (if b then set (kept_first n limit words bounds) n None else kept_first n limit words bounds) ≡ kept_first (suc n) limit words bounds
step_by n limit words bounds word many at true is =
    let none : kept_word limit (word_at words n) (slice_index bounds n) ≡ None = ap (λ (o : Option ℕ). kept_word limit o (slice_index bounds n)) at ∙ ap (λ (b : Bool). if b then None else Some word) is in
    ap (set (kept_first n limit words bounds) n) (sym none) ∙ sym (first_set n limit words bounds (slice_get_within words n (Some word) (inside_by (slice_get words n) word at)) many)
step_by n limit words bounds word many at false is =
    let same : kept_word limit (word_at words n) (slice_index bounds n) ≡ word_at words n = ap (λ (o : Option ℕ). kept_word limit o (slice_index bounds n)) at ∙ ap (λ (b : Bool). if b then None else Some word) is ∙ sym at in
    sym (first_same n limit words bounds many same)

step : (n limit : ℕ) (words : List (Option ℕ)) (bounds : List ℕ) → n < length bounds → (o : Option ℕ) → word_at words n ≡ o → without_one limit (slice_index bounds n) n (kept_first n limit words bounds) o ≡ kept_first (suc n) limit words bounds
step n limit words bounds many None at = sym (first_same n limit words bounds many (ap (λ (o : Option ℕ). kept_word limit o (slice_index bounds n)) at ∙ sym at))
step n limit words bounds many (Some word) at = step_by n limit words bounds word many at (is_given_up limit word (slice_index bounds n)) refl

-- one place more
pub first_more : (n limit : ℕ) (words : List (Option ℕ)) (bounds : List ℕ) → n < length bounds
    → without_one limit (slice_index bounds n) n (kept_first n limit words bounds) (word_at (kept_first n limit words bounds) n) ≡ kept_first (n + 1) limit words bounds
first_more n limit words bounds many =
    ap (without_one limit (slice_index bounds n) n (kept_first n limit words bounds)) (first_at n limit words bounds)
    ∙ step n limit words bounds many (word_at words n) refl
    ∙ sym (ap (λ (k : ℕ). kept_first k limit words bounds) (more_is n))

-- in all places
pub first_all : (n limit : ℕ) (words : List (Option ℕ)) (bounds : List ℕ) → length words ≤ n → kept_first n limit words bounds ≡ kept_words limit words bounds
first_all zero limit [] [] all = refl
first_all zero limit [] (b ∷ bounds) all = refl
first_all zero limit (w ∷ words) bounds all = absurd (omega (arith, all))
first_all (suc n) limit [] [] all = refl
first_all (suc n) limit [] (b ∷ bounds) all = refl
first_all (suc n) limit (w ∷ words) [] all = refl
first_all (suc n) limit (w ∷ words) (b ∷ bounds) all = ap (λ (l : List (Option ℕ)). kept_word limit w b ∷ l) (first_all n limit words bounds (omega (arith, all)))
