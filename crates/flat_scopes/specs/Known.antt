-- Names, as a list and as a set has them that is kept beside it.
use Rattle.std.specs.Prelude.{◌≡◌, ℕ, Bool, false, ◌||◌, List, [], ◌∷◌}
use Rattle.std.specs.BTreeSet.{BTreeSet, contains_text}
use Rattle.std.specs.Str.{bytes_eq}
use Rattle.std.specs.declared.string.String.{String}
use Rattle.std.specs.declared.alloc.Global.{Global}
use Rattle.vlog_syntax.specs.declared.identifier.Identifier.{Identifier}

-- whether a name is one of these
abbrev pub is_among : List Identifier → List ℕ → Bool
is_among [] name = false
is_among (x ∷ more) name = bytes_eq x.name name || is_among more name

-- For proofs alone.

-- the set has the names of the list, and no others
abbrev pub AreKnown : List Identifier → BTreeSet (String Global) → Type 0
AreKnown names known = (name : List ℕ) → contains_text known name ≡ is_among names name
