-- Expressions of a report, by precedence (The Python Language Reference, 6.17): `or`, `and`, `not`, comparisons, `+` and `-`, `*` and `/`,
-- from low to high. A list of tokens is parted at the signs of the lowest precedence that stand outside parentheses, and what they
-- do is done from left to right.
use Rattle.std.specs.Prelude.{ℕ, zero, suc, ◌==◌, ◌+◌, ◌*◌, ◌^◌, Bool, true, false, ◌&&◌, not, List, [], ◌∷◌, Option, None, Some, codes, drop, length, min, option_map, take, if◌then◌else◌}
use Rattle.script_lines.specs.declared.keyword.Keyword.TheVariants as key
use Rattle.script_lines.specs.declared.token.Token.{Token}
use Rattle.script_lines.specs.declared.token.Token.TheVariants as token
use Rattle.project_lines.specs.Numbers.{value}
use Rattle.script_lines.specs.Parting.{front_len, is_symbol, open_behind}
use Rattle.tag_lines.specs.Grammar.{argument_of, before_symbol, place_of}
use Rattle.report_lines.specs.declared.expr.Expr.{Expr}
use Rattle.report_lines.specs.declared.expr.Expr.TheVariants as e
use Rattle.report_lines.specs.declared.expr.Operator.{Operator}
use Rattle.report_lines.specs.declared.expr.Operator.TheVariants as op
use Rattle.report_lines.specs.declared.expr.Term.{Term}
use Rattle.report_lines.specs.declared.parting.Level.{Level}
use Rattle.report_lines.specs.declared.parting.Level.TheVariants as level

-- Signs.

abbrev pub symbol_operator : ℕ → Option Operator
symbol_operator byte =
    if byte == 60 then Some op.Less else
    (if byte == 62 then Some op.Greater else
    (if byte == 43 then Some op.Plus else
    (if byte == 45 then Some op.Minus else
    (if byte == 42 then Some op.Times else
    (if byte == 47 then Some op.Over else None)))))

abbrev pub operator_of : Token → Option Operator
operator_of (token.Keyword key.Or) = Some op.Or
operator_of (token.Keyword key.And) = Some op.And
operator_of token.Equal = Some op.Equal
operator_of token.NotEqual = Some op.NotEqual
operator_of token.LessEqual = Some op.LessEqual
operator_of token.GreaterEqual = Some op.GreaterEqual
operator_of (token.Symbol byte) = symbol_operator byte
operator_of other = None

abbrev pub is_at : Level → Operator → Bool
is_at level.Or op.Or = true
is_at level.And op.And = true
is_at level.Comparison op.Equal = true
is_at level.Comparison op.NotEqual = true
is_at level.Comparison op.Less = true
is_at level.Comparison op.LessEqual = true
is_at level.Comparison op.Greater = true
is_at level.Comparison op.GreaterEqual = true
is_at level.Sum op.Plus = true
is_at level.Sum op.Minus = true
is_at level.Product op.Times = true
is_at level.Product op.Over = true
is_at l operator = false

abbrev pub is_some_at : Level → Option Operator → Bool
is_some_at l None = false
is_some_at l (Some operator) = is_at l operator

-- the token parts at this level; 44 is the comma
abbrev pub is_sign : Level → Token → Bool
is_sign level.Comma t = is_symbol 44 t
is_sign l t = is_some_at l (operator_of t)

-- a sign, and what stands behind it up to the next one
pub record Share : Type 0 where
  pub sign : Token
  pub tokens : List Token

abbrev pub share_of : Level → Token → List Token → Share
share_of l t more = record { sign = t; tokens = take (front_len (is_sign l) 0 more) more }

-- the shares of the signs outside parentheses, of which so many are open
unfoldable pub shares_behind : Level → ℕ → List Token → List Share
shares_behind l opened [] = []
shares_behind l opened (t ∷ more) =
    if opened == 0 && is_sign l t then share_of l t more ∷ shares_behind l 0 more else shares_behind l (open_behind opened t) more

-- the shares of tokens that begin with a sign
unfoldable pub shares_at : Level → List Token → List Share
shares_at l [] = []
shares_at l (t ∷ more) = share_of l t more ∷ shares_behind l 0 more

-- Numbers, in millionths.

-- the value of digits; above 10^12 all are one, since they are out of range alike
unfoldable pub capped : List ℕ → ℕ
capped digits = min (value digits) (10 ^ 12 + 1)

-- what the last of so many places counts, of which there are one to six
abbrev pub place_unit : ℕ → Option ℕ
place_unit places =
    if places == 1 then Some 100000 else
    (if places == 2 then Some 10000 else
    (if places == 3 then Some 1000 else
    (if places == 4 then Some 100 else
    (if places == 5 then Some 10 else
    (if places == 6 then Some 1 else None)))))

abbrev pub number : List ℕ → Expr
number digits = e.Number (capped digits * 1000000)

unfoldable pub decimal_number : List ℕ → List ℕ → Option Expr
decimal_number digits places = option_map (λ unit. e.Number (capped digits * 1000000 + capped places * unit)) (place_unit (length places))

unfoldable pub single : Token → Option Expr
single (token.Digits digits) = Some (number digits)
single (token.Decimal digits places) = decimal_number digits places
single other = None

-- Expressions. `inner` reads what stands in parentheses.

abbrev pub Reader : Type 0
Reader = List Token → Option Expr

unfoldable pub nothing : Reader
nothing tokens = None

-- the count of a tag, as `tags("NAME")`
abbrev pub counted : List (List ℕ) → List Token → Option Expr
counted tags tokens = option_map (λ tag. e.Count (place_of tag tags)) (argument_of (codes "tags") tokens)

-- a number, the count of a tag, or an expression in parentheses (40, 41)
unfoldable pub atom : List (List ℕ) → Reader → Reader
atom tags inner [] = None
atom tags inner (t ∷ []) = single t
atom tags inner (t ∷ u ∷ more) = if is_symbol 40 t then before_symbol 41 inner (u ∷ more) else counted tags (t ∷ u ∷ more)

abbrev pub term_of : Option Operator → Option Expr → Option Term
term_of (Some operator) (Some operand) = Some (record { operator = operator; operand = operand })
term_of operator operand = None

-- what each share makes, where each makes something
unfoldable pub all_of : {A : Type 0} → (Share → Option A) → List Share → Option (List A)
all_of make [] = Some []
all_of make (share ∷ more) = elim (make share) [ None ↦ None | Some x ↦ option_map (λ xs. x ∷ xs) (all_of make more) ]

abbrev pub term_in : Reader → Share → Option Term
term_in reader share = term_of (operator_of share.sign) (reader share.tokens)

abbrev pub is_single : List Term → Bool
is_single [] = true
is_single (t ∷ []) = true
is_single (t ∷ u ∷ more) = false

-- comparisons do not follow one another
abbrev pub are_barred : Level → List Term → Bool
are_barred level.Comparison terms = not (is_single terms)
are_barred l terms = false

-- a value and what is done with it
abbrev pub joined : Level → Expr → Option (List Term) → Option Expr
joined l value None = None
joined l value (Some []) = Some value
joined l value (Some (t ∷ more)) = if are_barred l (t ∷ more) then None else Some (e.Chain value (t ∷ more))

abbrev pub joined_to : Level → Option Expr → Option (List Term) → Option Expr
joined_to l None terms = None
joined_to l (Some value) terms = joined l value terms

-- what stands in front of the first sign, and the terms behind it
unfoldable pub chain : Level → Reader → Reader
chain l reader tokens =
    let n = front_len (is_sign l) 0 tokens in
    joined_to l (reader (take n tokens)) (all_of (term_in reader) (shares_at l (drop n tokens)))

abbrev pub negated : Option Expr → Option Expr
negated None = None
negated (Some x) = Some (e.Not x)

abbrev pub arithmetic : List (List ℕ) → Reader → Reader
arithmetic tags inner = chain level.Sum (chain level.Product (atom tags inner))

-- `not`, or a comparison; `deeper` reads operands inside one construct more
unfoldable pub negation : List (List ℕ) → Reader → Reader → Reader
negation tags deeper inner [] = chain level.Comparison (arithmetic tags inner) []
negation tags deeper inner (token.Keyword key.Not ∷ more) = negated (deeper more)
negation tags deeper inner (t ∷ more) = chain level.Comparison (arithmetic tags inner) (t ∷ more)

abbrev pub disjunction : Reader → Reader
disjunction operand = chain level.Or (chain level.And operand)

-- An operand of `and`, where at most so many parentheses and `not`s may be open within it.
unfoldable pub operand : List (List ℕ) → ℕ → Reader
operand tags zero = negation tags nothing nothing
operand tags (suc room) = negation tags (operand tags room) (disjunction (operand tags room))

-- an expression
unfoldable pub expression : List (List ℕ) → ℕ → Reader
expression tags room = disjunction (operand tags room)

unfoldable pub inner : List (List ℕ) → ℕ → Reader
inner tags zero = nothing
inner tags (suc room) = expression tags room

-- For proofs alone.

-- the readers inside one construct more, where so many may be open
unfoldable pub deeper : List (List ℕ) → ℕ → Reader
deeper tags zero = nothing
deeper tags (suc room) = operand tags room

-- the reader of what stands between the signs of a level
unfoldable pub part : List (List ℕ) → ℕ → Level → Reader
part tags room level.Comma = nothing
part tags room level.Or = chain level.And (operand tags room)
part tags room level.And = operand tags room
part tags room level.Comparison = chain level.Sum (chain level.Product (atom tags (inner tags room)))
part tags room level.Sum = chain level.Product (atom tags (inner tags room))
part tags room level.Product = atom tags (inner tags room)
