-- The numbers of modules by their names, as a map has them.
use Rattle.std.specs.Prelude.{◌≡◌, ℕ, List, [], ◌∷◌, Option, None, Some, if◌then◌else◌}
use Rattle.std.specs.Str.{bytes_eq}
use Rattle.std.specs.String.{string_bytes}
use Rattle.std.specs.declared.string.String.{String}
use Rattle.std.specs.declared.alloc.Global.{Global}
use Rattle.vlog_syntax.specs.declared.module.Module.{Module}
use Rattle.flat_items.specs.Flattened.{module_at}

-- For proofs alone.

-- what the entries of a map say of a name
abbrev pub number_of : List (List ℕ × ℕ) → List ℕ → Option ℕ
number_of [] name = None
number_of (entry ∷ more) name = if bytes_eq name entry.0 then Some entry.1 else number_of more name

-- the entries of a map, with the bytes of their names
abbrev pub number_entry : String Global × ℕ → List ℕ × ℕ
number_entry entry = (string_bytes entry.0, entry.1)

-- the same numbers, and this one
abbrev pub with_number : (List ℕ → Option ℕ) → List ℕ → ℕ → List ℕ → Option ℕ
with_number numbers name number other = if bytes_eq name other then Some number else numbers other

-- each name has the number of the first module of that name
abbrev pub AreNumbered : List Module → List (List ℕ × ℕ) → Type 0
AreNumbered modules numbers = (name : List ℕ) → number_of numbers name ≡ module_at modules name
