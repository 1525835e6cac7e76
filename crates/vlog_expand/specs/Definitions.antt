-- The macros that are defined (IEEE 1364-2005, 19.3).
use Rattle.std.specs.Prelude.{ℕ, List, Option, None, bytes_eq, option_map}
use Rattle.std.specs.Map.{update}
use Rattle.std.specs.BTreeMap.{get_by}
use Rattle.std.specs.Cmp.Lexicographic.{slice_cmp}
use Rattle.std.specs.Ordering.{nat_cmp}
use Rattle.vlog_token.specs.declared.token.Token.{Token}
use Rattle.vlog_expand.specs.declared.macros.Macros.{Macros}

-- the text of each macro by its name, where it is defined
abbrev pub Definitions : Type 0
Definitions = List ℕ → Option (List Token)

-- no macro is defined
unfoldable pub no_macros : Definitions
no_macros name = None

-- the same, with this for the text of one macro
unfoldable pub with_text : Definitions → List ℕ → Option (List Token) → Definitions
with_text macros name text = update bytes_eq macros name text

-- For proofs alone.

-- what a map of texts defines
unfoldable pub definitions_of : Macros → Definitions
definitions_of m name = option_map (λ text. text.now) (get_by (λ k. slice_cmp nat_cmp name k.now) m.texts)
