-- The names that a scope declares itself.
use Rattle.std.specs.Prelude.{ℕ, List, [], ◌∷◌, Option, None, Some, if◌then◌else◌}
use Rattle.std.specs.Str.{bytes_eq}
use Rattle.std.specs.String.{string_bytes}
use Rattle.std.specs.declared.string.String.{String}
use Rattle.std.specs.declared.alloc.Global.{Global}
use Rattle.flat_scopes.specs.declared.signal.What.{What}

-- what a name stands for
abbrev pub Own : Type 0
Own = List ℕ → Option What

-- what the entries of a map say of a name
abbrev pub what_of : List (List ℕ × What) → Own
what_of [] name = None
what_of (entry ∷ more) name = if bytes_eq name entry.0 then Some entry.1 else what_of more name

-- the entries of a map, with the bytes of their names
abbrev pub own_entry : String Global × What → List ℕ × What
own_entry entry = (string_bytes entry.0, entry.1)

-- the same names, and this one
abbrev pub with_own : Own → List ℕ → What → Own
with_own own name what = λ other. if bytes_eq name other then Some what else own other
