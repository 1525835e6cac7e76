-- Registers of one name, as escaped names can make them: `\u.q ` beside an instance u that has a register q.
use Rattle.std.specs.Prelude.{◌≡◌, ◌↔◌, ℕ, Bool, true, false, List, [], ◌∷◌, ◌++◌, map, take, slice_get, Option, None, Some}
use Rattle.std.specs.List.{Contains}
use Rattle.std.specs.BTreeSet.{BTreeSet, contains_text}
use Rattle.std.specs.declared.string.String.{String}
use Rattle.std.specs.declared.alloc.Global.{Global}
use Rattle.mcy_base.specs.declared.span.Span.{Span}
use Rattle.netlist_core.specs.declared.port.Register.{Register}
use Rattle.netlist_core.specs.Checked.{IsFirst, Never}

abbrev pub register_name : Register → List ℕ
register_name r = r.name

-- the register of this number has the name of one before it
abbrev pub IsNamedAgain : List Register → ℕ → Type 0
IsNamedAgain registers p = (r : Register) × (slice_get registers p ≡ Some r) × Contains (map register_name (take p registers)) r.name

-- no two registers have one name
abbrev pub AreNamedApart : List Register → Type 0
AreNamedApart registers = Never (IsNamedAgain registers)

-- the place of a register
abbrev pub IsRegisterAt : Option Register → Span → Type 0
IsRegisterAt None span = ⊥
IsRegisterAt (Some r) span = r.span ≡ span

-- The first register that has the name of one before it stands at the place.
abbrev pub IsAgainAt : List Register → Span → Type 0
IsAgainAt registers span = (p : ℕ) × IsFirst (IsNamedAgain registers) p × IsRegisterAt (slice_get registers p) span

-- For proofs alone.

-- The names that were met.

-- the set has these names, and no others
abbrev pub HasMet : List (List ℕ) → BTreeSet (String Global) → Type 0
HasMet names met = (name : List ℕ) → (contains_text met name ≡ true) ↔ Contains names name

-- the name is one of these; else the set has it now too
abbrev pub IsMet : List (List ℕ) → List ℕ → BTreeSet (String Global) → Bool → Type 0
IsMet names name met true = Contains names name
IsMet names name met false = (¬ Contains names name) × HasMet (names ++ name ∷ []) met
