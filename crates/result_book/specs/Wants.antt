-- How it is found what a run wants: the script is asked on the words without those that were given up under less than the limit.
use Rattle.std.specs.Prelude.{ℕ, List, ◌∷◌, Option, None, Some, if◌then◌else◌, slice_set}
use Rattle.result_book.specs.Goals.{is_given_up}

-- For proofs alone.

-- a word, unless it was given up under less than the limit
abbrev pub kept_word : ℕ → Option ℕ → ℕ → Option ℕ
kept_word limit None bound = None
kept_word limit (Some word) bound = if is_given_up limit word bound then None else Some word

-- the words that were not, where they were found under these bounds
abbrev pub kept_words : ℕ → List (Option ℕ) → List ℕ → List (Option ℕ)
kept_words limit (word ∷ words) (bound ∷ bounds) = kept_word limit word bound ∷ kept_words limit words bounds
kept_words limit words bounds = words

-- the words without that of a test, if it has this one, found under this bound, and was given up under less than the limit
abbrev pub without_one : ℕ → ℕ → ℕ → List (Option ℕ) → Option ℕ → List (Option ℕ)
without_one limit bound test words None = words
without_one limit bound test words (Some word) = if is_given_up limit word bound then slice_set words test None else words
