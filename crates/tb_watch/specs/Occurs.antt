-- A word in a text.
use Rattle.std.specs.Prelude.{ℕ, ◌-◌, ◌<◌, List, length, drop}
use Rattle.memchr.specs.Find.{OccursAt}

-- the word occurs in the text; an empty one occurs nowhere
abbrev pub Occurs : List ℕ → List ℕ → Type 0
Occurs word text = (0 < length word) × ((i : ℕ) × OccursAt text word i)

-- the last n items, or all where there are fewer
abbrev pub last : ℕ → List ℕ → List ℕ
last n text = drop (length text - n) text
