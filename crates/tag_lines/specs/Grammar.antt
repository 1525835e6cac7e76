-- Expressions of a tag script, by precedence (The Python Language Reference, 6.17): `or`, `and`, `not`, `==` and `!=`, from low to high.
-- A list of tokens is parted at the operators of the lowest precedence that stand outside parentheses.
use Rattle.std.specs.Prelude.{ℕ, zero, suc, ◌==◌, ◌+◌, ◌-◌, ◌^◌, Bool, true, false, ◌&&◌, ◌||◌, not, List, [], ◌∷◌, Option, None, Some, bytes_eq, codes, drop, length, nat_lt, option_map, slice_get, take, if◌then◌else◌}
use Rattle.std.specs.List.{onto_first, prefix_len}
use Rattle.script_lines.specs.declared.keyword.Keyword.TheVariants as key
use Rattle.script_lines.specs.declared.token.Token.{Token}
use Rattle.script_lines.specs.declared.token.Token.TheVariants as token
use Rattle.script_lines.specs.Parting.{front_len, is_symbol, open_behind}
use Rattle.tag_lines.specs.declared.expr.Comparison.{Comparison}
use Rattle.tag_lines.specs.declared.expr.Comparison.TheVariants as op
use Rattle.tag_lines.specs.declared.expr.Expr.{Expr}
use Rattle.tag_lines.specs.declared.expr.Expr.TheVariants as e
use Rattle.tag_lines.specs.declared.parting.Separator.{Separator}
use Rattle.tag_lines.specs.declared.parting.Separator.TheVariants as sep
use Rattle.project_lines.specs.Numbers.{value}

-- the tests of the project, and the names of the script as far as it was read
pub record Words : Type 0 where
  pub tests : List (List ℕ)
  pub names : List (List ℕ)

abbrev pub known_words : List (List ℕ) → List (List ℕ) → Words
known_words tests names = record { tests = tests; names = names }

-- the place of a word in a list, which is the list's length where it is not there
unfoldable pub place_of : List ℕ → List (List ℕ) → ℕ
place_of word words = prefix_len (λ other. not (bytes_eq other word)) words

-- `tag` and `result`
unfoldable pub is_function : List ℕ → Bool
is_function name = bytes_eq name (codes "tag") || bytes_eq name (codes "result")

-- Tokens.

abbrev pub comparison_of : Token → Option Comparison
comparison_of token.Equal = Some op.Equal
comparison_of token.NotEqual = Some op.NotEqual
comparison_of other = None

abbrev pub is_separator : Separator → Token → Bool
is_separator sep.Or (token.Keyword key.Or) = true
is_separator sep.And (token.Keyword key.And) = true
is_separator sep.Comparison token.Equal = true
is_separator sep.Comparison token.NotEqual = true
is_separator separator other = false

-- the parts between the separators outside parentheses
unfoldable pub parts_at : Separator → ℕ → List Token → List (List Token)
parts_at separator opened [] = [] ∷ []
parts_at separator opened (t ∷ more) =
    if opened == 0 && is_separator separator t then [] ∷ parts_at separator 0 more else
    onto_first t (parts_at separator (open_behind opened t) more)

-- Expressions. `inner` reads what stands in parentheses.

abbrev pub Reader : Type 0
Reader = List Token → Option Expr

unfoldable pub nothing : Reader
nothing tokens = None

unfoldable pub number_of : List ℕ → Option Expr
number_of digits = if nat_lt (value digits) (2 ^ 31) then Some (e.Number (value digits)) else None

-- an expression of one token
unfoldable pub single : List (List ℕ) → Token → Option Expr
single names (token.Keyword key.True) = Some (e.Number 1)
single names (token.Keyword key.False) = Some (e.Number 0)
single names (token.Digits digits) = number_of digits
single names (token.Quoted text) = Some (e.Text text)
single names (token.Name name) = if is_function name then None else Some (e.Name (place_of name names))
single names other = None

-- the last token is this symbol
abbrev pub is_last : ℕ → Option Token → Bool
is_last byte None = false
is_last byte (Some t) = is_symbol byte t

-- what a reader finds in front of the last token, which is this symbol
unfoldable pub before_symbol : {A : Type 0} → ℕ → (List Token → Option A) → List Token → Option A
before_symbol byte reader tokens = if is_last byte (slice_get tokens (length tokens - 1)) then reader (take (length tokens - 1) tokens) else None

-- the text to which a function is applied, as in `result("test")`
unfoldable pub argument_of : List ℕ → List Token → Option (List ℕ)
argument_of function (token.Name name ∷ opened ∷ token.Quoted text ∷ close ∷ []) =
    if bytes_eq name function && (is_symbol 40 opened && is_symbol 41 close) then Some text else None
argument_of function other = None

abbrev pub called : List (List ℕ) → List Token → Option Expr
called tests tokens = option_map (λ test. e.Word (place_of test tests)) (argument_of (codes "result") tokens)

-- a name, a number, a text, a test's word, or an expression in parentheses
unfoldable pub atom : Words → Reader → List Token → Option Expr
atom w inner [] = None
atom w inner (t ∷ []) = single w.names t
atom w inner (t ∷ u ∷ more) = if is_symbol 40 t then before_symbol 41 inner (u ∷ more) else called w.tests (t ∷ u ∷ more)

abbrev pub both : Option Expr → Option Comparison → Option Expr → Option Expr
both (Some left) (Some operator) (Some right) = Some (e.Compare left operator right)
both left operator right = None

-- what stands in front of a token, and behind it
abbrev pub compared_at : Words → Reader → ℕ → List Token → Option Expr
compared_at w inner n tokens = elim (slice_get tokens n) [
  | None ↦ atom w inner tokens
  | Some t ↦ both (atom w inner (take n tokens)) (comparison_of t) (atom w inner (drop (n + 1) tokens))
]

-- one comparison at most: what stands on the sides of the first one holds no other
unfoldable pub comparison : Words → Reader → List Token → Option Expr
comparison w inner tokens = compared_at w inner (front_len (is_separator sep.Comparison) 0 tokens) tokens

-- all parts, where each is an expression
unfoldable pub all_of : Reader → List (List Token) → Option (List Expr)
all_of reader [] = Some []
all_of reader (part ∷ parts) = elim (reader part) [ None ↦ None | Some x ↦ option_map (λ xs. x ∷ xs) (all_of reader parts) ]

abbrev pub joined : Separator → Option (List Expr) → Option Expr
joined separator None = None
joined sep.Or (Some operands) = Some (e.Or operands)
joined sep.And (Some operands) = Some (e.And operands)
joined sep.Comparison (Some operands) = None

-- the operands between separators, or one operand where there is no separator
unfoldable pub chain : Separator → Reader → List Token → Option Expr
chain separator reader tokens =
    if front_len (is_separator separator) 0 tokens == length tokens then reader tokens else
    joined separator (all_of reader (parts_at separator 0 tokens))

abbrev pub disjunction : Reader → Reader
disjunction operand = chain sep.Or (chain sep.And operand)

abbrev pub negated : Option Expr → Option Expr
negated None = None
negated (Some x) = Some (e.Not x)

-- `not`, or a comparison; `deeper` reads operands inside one construct more
unfoldable pub negation : Words → Reader → Reader → List Token → Option Expr
negation w deeper inner [] = None
negation w deeper inner (token.Keyword key.Not ∷ more) = negated (deeper more)
negation w deeper inner (t ∷ more) = comparison w inner (t ∷ more)

-- An operand of `and`, where at most so many parentheses and `not`s may be open within it.
unfoldable pub operand : Words → ℕ → Reader
operand w zero = negation w nothing nothing
operand w (suc room) = negation w (operand w room) (disjunction (operand w room))

-- an expression
unfoldable pub expression : Words → ℕ → Reader
expression w room = disjunction (operand w room)

-- For proofs alone.

-- the readers inside one construct more, where so many may be open
unfoldable pub deeper : Words → ℕ → Reader
deeper w zero = nothing
deeper w (suc room) = operand w room

unfoldable pub inner : Words → ℕ → Reader
inner w zero = nothing
inner w (suc room) = expression w room

-- the reader of what stands between separators
unfoldable pub part : Words → ℕ → Separator → Reader
part w room sep.Or = chain sep.And (operand w room)
part w room sep.And = operand w room
part w room sep.Comparison = nothing
