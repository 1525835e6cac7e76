-- Which file has changed where the database holds another campaign: item 1 of a book is the project file, and each further one a
-- source, its name in front of a newline (10).
use Rattle.std.specs.Prelude.{ℕ, zero, suc, ◌==◌, Bool, not, List, Option, Some, None, codes, take}
use Rattle.std.specs.List.{prefix_len}
use Rattle.result_book.specs.declared.check.BookError.{BookError}
use Rattle.result_book.specs.declared.check.BookError.TheVariants as b

-- For proofs alone.

abbrev pub is_of_name : ℕ → Bool
is_of_name byte = not (byte == 10)

abbrev pub name_len : List ℕ → ℕ
name_len item = prefix_len is_of_name item

abbrev pub name_front : List ℕ → List ℕ
name_front item = take (name_len item) item

abbrev pub name_of : Option (List ℕ) → Option (List ℕ) → Option (List ℕ)
name_of old (Some item) = Some (name_front item)
name_of (Some item) None = Some (name_front item)
name_of None None = None

-- the file that the item at this place is, from what is kept there and what the campaign has
abbrev pub changed : ℕ → Option (List ℕ) → Option (List ℕ) → Option (List ℕ)
changed zero old new = None
changed (suc zero) old new = Some (codes "config.mcy")
changed (suc (suc place)) old new = name_of old new

abbrev pub subject : BookError → Option (List ℕ)
subject (b.Meta place old new) = changed place old new
subject error = None
