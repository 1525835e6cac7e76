-- How deep constructs are nested, token by token.
--
-- Constructs are generate blocks, statements other than `;`, and expressions other than a name, a number or a system
-- function without arguments. An operator lies round its left operand as soon as it is read, so `a + b + c` is
-- nested to the left.
use Rattle.std.specs.Prelude.{◌≡◌, ℕ, ◌+◌, ◌-◌, ◌<◌, ◌≤◌, Bool, true, false, ◌&&◌, ◌==◌, nat_lt, max, if◌then◌else◌, List, [], ◌∷◌, ◌++◌, Option, Some, None, length, take, slice_index}
use Rattle.vlog_syntax.specs.declared.feature.Feature.{Feature}
use Rattle.vlog_grammar.specs.declared.rule.Rule.{Rule}
use Rattle.vlog_grammar.specs.declared.rule.Rule.TheVariants as r
use Rattle.vlog_grammar.specs.declared.step.Step.{Step}
use Rattle.vlog_grammar.specs.declared.step.Step.TheVariants.{Take, Begin}
use Rattle.vlog_grammar.specs.Grammar.{parts_of}
use Rattle.vlog_grammar.specs.declared.step.Token.{Token as Classed}
use Rattle.vlog_grammar.specs.Trees.{Trees, Nil, Leaf, Node, tokens_of, refusals_of}
use Rattle.vlog_grammar.specs.Reading.{IsText, none_refused}
use Rattle.vlog_parse.specs.declared.nesting.Row.{Row}

-- the constructs without a left operand
unfoldable pub is_construct : Rule → Bool
is_construct r.GenerateOneItem = true
is_construct r.GenerateBeginEnd = true
is_construct r.SeqBlock = true
is_construct r.ConditionalStatement = true
is_construct r.CaseStatement = true
is_construct r.ForStatement = true
is_construct r.WhileStatement = true
is_construct r.RepeatStatement = true
is_construct r.ForeverStatement = true
is_construct r.EventControlStatement = true
is_construct r.DelayControlStatement = true
is_construct r.SystemTaskEnable = true
is_construct r.UnaryFunctionEnable = true
is_construct r.Assignment = true
is_construct r.DelayExpression = true
is_construct r.LeftConcatenation = true
is_construct r.SomeSelect = true
is_construct r.UnaryPlus = true
is_construct r.UnaryMinus = true
is_construct r.LogicalNot = true
is_construct r.BitNot = true
is_construct r.ReductionAnd = true
is_construct r.ReductionNand = true
is_construct r.ReductionOr = true
is_construct r.ReductionNor = true
is_construct r.ReductionXor = true
is_construct r.ReductionXnor = true
is_construct r.Parenthesized = true
is_construct r.Braces = true
is_construct r.SomeFunctionArguments = true
is_construct r.UnaryFunctionCall = true
is_construct _ = false

-- the operators behind a left operand, and the parts of each that are no part of its right operand: the chain that
-- goes on behind it, which `?` has not
unfoldable pub behind : Rule → Option ℕ
behind r.Power = Some 1
behind r.Times = Some 1
behind r.Divide = Some 1
behind r.Remainder = Some 1
behind r.Plus = Some 1
behind r.Minus = Some 1
behind r.ShiftLeft = Some 1
behind r.ShiftRight = Some 1
behind r.ShiftLeftSigned = Some 1
behind r.ShiftRightSigned = Some 1
behind r.Less = Some 1
behind r.LessEqual = Some 1
behind r.Greater = Some 1
behind r.GreaterEqual = Some 1
behind r.Equal = Some 1
behind r.Unequal = Some 1
behind r.CaseEqual = Some 1
behind r.CaseUnequal = Some 1
behind r.BitAnd = Some 1
behind r.BitXor = Some 1
behind r.BitXnor = Some 1
behind r.BitOr = Some 1
behind r.LogicalAnd = Some 1
behind r.LogicalOr = Some 1
behind r.SomeCondition = Some 0
behind _ = None

-- one construct more; past 200 all is one
abbrev pub more : ℕ → ℕ
more n = if nat_lt 200 n then n else n + 1

abbrev pub height_of : Bool → ℕ → ℕ
height_of true n = more n
height_of false n = n

-- Behind the right operand of an operator the operator is a left operand.
unfoldable pub settled : Row → Row
settled row =
    if row.is_operator && (row.parts == row.behind)
    then record row { depth = row.depth - 1; height = more (max row.height row.left); left = 0; is_operator = false }
    else row

-- how deep the constructs are that are known at a token
unfoldable pub reached : Row → ℕ
reached row = row.depth + max row.height row.left

abbrev pub begun_by : Row → ℕ → Bool → Option ℕ → Row
begun_by row count own None = record { depth = height_of own row.depth; height = 0; left = 0; is_operator = false; parts = count; behind = 0 }
begun_by row count own (Some n) = record { depth = more row.depth; height = 0; left = row.height; is_operator = true; parts = count; behind = n }

-- the row of a production's parts, in a row
unfoldable pub begun : Row → Rule → Row
begun row rule = begun_by row (length (parts_of rule)) (is_construct rule) (behind rule)

abbrev pub ended_by : Row → ℕ → Bool → Option ℕ → Row
ended_by row height own None = record row { height = max row.height (height_of own height); parts = row.parts - 1 }
ended_by row height own (Some n) = record row { height = height; parts = row.parts - 1 }

-- the row behind a production that is as high as its parts
unfoldable pub ended : Row → Rule → Row → Row
ended row rule inner = ended_by row inner.height (is_construct rule) (behind rule)

-- For each token of trees how deep the constructs are that are known at it, and the row behind the trees.
abbrev pub depths_in : Row → Trees → List ℕ × Row
depths_in row Nil = ([], settled row)
depths_in row (Leaf t x f) =
    let now = settled row in
    let later = depths_in (record now { parts = now.parts - 1 }) f in
    (reached now ∷ later.0, later.1)
depths_in row (Node rule parts f) =
    let now = settled row in
    let inner = depths_in (begun now rule) parts in
    let later = depths_in (ended now rule inner.1) f in
    (inner.0 ++ later.0, later.1)

abbrev pub outermost : Row
outermost = record { depth = 0; height = 0; left = 0; is_operator = false; parts = 1; behind = 0 }

abbrev pub depths : Trees → List ℕ
depths text = (depths_in outermost text).0

-- The same from the steps of the trees, with the rows around and the productions that stand in them.

abbrev pub AllShallow : List ℕ → Type 0
AllShallow [] = Unit {0}
AllShallow (n ∷ ns) = (n ≤ 200) × AllShallow ns

-- Nothing before the token with this number is too deep, in each text that begins with the tokens before it.
abbrev pub IsShallowBefore : List Classed → ℕ → Type 0
IsShallowBefore tokens n = (text : Trees) (more : List Classed) → IsText text → tokens_of text ≡ take n tokens ++ more → AllShallow (take n (depths text))

-- A text begins with the tokens up to number n, none of which is refused. That one is the first at which more than 200
-- constructs are known.
pub record IsTooDeepAt (tokens : List Classed) (n : ℕ) : Type 0 where
  pub within : n < length tokens
  pub text : Trees
  pub is_text : IsText text
  pub more : List Classed
  pub begins : tokens_of text ≡ take (n + 1) tokens ++ more
  pub refusals : List (Option Feature)
  pub none_is_refused : refusals_of text ≡ none_refused (take (n + 1) tokens) ++ refusals
  pub deep : 200 < slice_index (depths text) n
  pub before : AllShallow (take n (depths text))

-- For proofs alone.

-- goes on in the rows around, where all parts of a row are read
abbrev pub closed : Row → List (Row × Rule) → Row × List (Row × Rule)
closed row [] = (row, [])
closed row (outer ∷ rows) = if row.parts == 0 then closed (ended outer.0 outer.1 (settled row)) rows else (row, outer ∷ rows)

abbrev pub walked : Row → List (Row × Rule) → List Step → List ℕ
walked row rows [] = []
walked row rows (Take t ∷ steps) =
    let now = settled row in
    let next = closed (record now { parts = now.parts - 1 }) rows in
    reached now ∷ walked next.0 next.1 steps
walked row rows (Begin rule ∷ steps) =
    let now = settled row in
    let next = closed (begun now rule) ((now, rule) ∷ rows) in
    walked next.0 next.1 steps

-- the place of the first depth above 200, where the first of these has number n
abbrev pub first_deep : ℕ → List ℕ → Option ℕ
first_deep n [] = None
first_deep n (depth ∷ more) = if nat_lt 200 depth then Some n else first_deep (n + 1) more
