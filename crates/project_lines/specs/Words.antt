-- Words of a project file: names, and what is asked of a list of words.
use Rattle.std.specs.Prelude.{ℕ, ◌==◌, Bool, false, ◌&&◌, ◌||◌, List, [], ◌∷◌, bytes_eq, nat_le}
use Rattle.std.specs.List.{list_all, list_any}

-- a letter or `_` (95)
unfoldable pub is_name_start : ℕ → Bool
is_name_start byte = (nat_le 65 byte && nat_le byte 90) || ((nat_le 97 byte && nat_le byte 122) || byte == 95)

-- a letter, a digit or `_`
unfoldable pub is_name_byte : ℕ → Bool
is_name_byte byte = is_name_start byte || (nat_le 48 byte && nat_le byte 57)

-- a letter or `_`, then letters, digits and `_`
unfoldable pub is_name : List ℕ → Bool
is_name [] = false
is_name (byte ∷ more) = is_name_start byte && list_all is_name_byte more

-- the word stands in the list
abbrev pub is_among : List ℕ → List (List ℕ) → Bool
is_among word words = list_any (λ other. bytes_eq other word) words

-- the list has one or more words, and each passes
abbrev pub are_all : (List ℕ → Bool) → List (List ℕ) → Bool
are_all test [] = false
are_all test (word ∷ more) = list_all test (word ∷ more)

-- the list has one word, which passes
abbrev pub is_one : (List ℕ → Bool) → List (List ℕ) → Bool
is_one test (word ∷ []) = test word
is_one test _ = false
