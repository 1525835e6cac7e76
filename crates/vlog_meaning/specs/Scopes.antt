-- Scopes: what each name is declared as.
use Rattle.std.specs.Prelude.{◌≡◌, ◌<◌, ◌^◌, ℕ, List, [], ◌∷◌, Option, None, Some, slice_get, if◌then◌else◌}
use Rattle.std.specs.Str.{bytes_eq}
use Rattle.std.specs.String.{string_bytes}
use Rattle.std.specs.declared.string.String.{String}
use Rattle.std.specs.declared.alloc.Global.{Global}
use Rattle.mcy_base.specs.declared.word.Word.{Word}
use Rattle.vlog_meaning.specs.declared.scope.Decl.{Decl}
use Rattle.vlog_meaning.specs.declared.scope.Decl.TheVariants.{Signal, Constant}
use Rattle.vlog_meaning.specs.declared.shapes.Shape.{Shape}
use Rattle.vlog_meaning.specs.Operators.{bit}

-- what a name is declared as
abbrev pub Names : Type 0
Names = List ℕ → Option Decl

-- what the entries of a map say of a name
abbrev pub names_of : List (List ℕ × Decl) → Names
names_of [] name = None
names_of (entry ∷ more) name = if bytes_eq name entry.0 then Some entry.1 else names_of more name

-- the entries of a map, with the bytes of their names
abbrev pub entry_of : String Global × Decl → List ℕ × Decl
entry_of entry = (string_bytes entry.0, entry.1)

-- the same names, but for one that is declared so, or not at all
abbrev pub with_name : Names → List ℕ → Option Decl → Names
with_name names name decl = λ other. if bytes_eq name other then decl else names other

-- the shape of a name, and the number of its lowest bit
abbrev pub decl_shape : Option Decl → Shape
decl_shape (Some (Signal width low is_signed number)) = record { width = width; is_signed = is_signed }
decl_shape (Some (Constant value low is_signed)) = record { width = value.width; is_signed = is_signed }
decl_shape None = bit

abbrev pub decl_low : Option Decl → ℕ
decl_low (Some (Signal width low is_signed number)) = low
decl_low (Some (Constant value low is_signed)) = low
decl_low None = 0

-- the values of signals, by their numbers
abbrev pub Store : Type 0
Store = ℕ → ℕ

-- where no signal plays a part
abbrev pub nothing : Store
nothing number = 0

abbrev pub decl_value : Store → Option Decl → ℕ
decl_value store (Some (Signal width low is_signed number)) = store number
decl_value store (Some (Constant value low is_signed)) = value.bits
decl_value store None = 0

abbrev pub word_bits : Option Word → ℕ
word_bits (Some word) = word.bits
word_bits None = 0

-- the values that words hold
abbrev pub store_of : List Word → Store
store_of words number = word_bits (slice_get words number)

-- a word of this width, where there is a word at its number
abbrev pub FitsWidth : ℕ → Option Word → Type 0
FitsWidth width (Some word) = word.width ≡ width
FitsWidth width None = Unit {0}

abbrev pub FitsWord : List Word → Option Decl → Type 0
FitsWord words (Some (Signal width low is_signed number)) = FitsWidth width (slice_get words number)
FitsWord words (Some (Constant value low is_signed)) = Unit {0}
FitsWord words None = Unit {0}

-- each word of a declared signal has its width
abbrev pub FitsSignals : Names → List Word → Type 0
FitsSignals names words = (name : List ℕ) → FitsWord words (names name)

-- each declared signal has a number of its width
abbrev pub IsWithin : Store → Option Decl → Type 0
IsWithin store (Some (Signal width low is_signed number)) = store number < 2 ^ width
IsWithin store (Some (Constant value low is_signed)) = Unit {0}
IsWithin store None = Unit {0}

abbrev pub AreWithin : Names → Store → Type 0
AreWithin names store = (name : List ℕ) → IsWithin store (names name)
