-- A line of a tag script where it stands: what it says, or what is wrong with it. Of two faults of one line the one counts that
-- `ScriptError` has first.
use Rattle.std.specs.Prelude.{◌≢◌, ◌≡◌, ℕ, ◌==◌, ◌-◌, Bool, true, false, not, ◌&&◌, ◌||◌, List, [], ◌∷◌, Option, None, Some, Result, Ok, Err, MatchResult, length, nat_le, nat_lt, if◌then◌else◌}
use Rattle.script_lines.specs.declared.row.Row.{Row}
use Rattle.script_lines.specs.declared.token.Token.{Token}
use Rattle.tag_lines.specs.declared.expr.Expr.{Expr}
use Rattle.tag_lines.specs.declared.head.Head.{Head}
use Rattle.tag_lines.specs.declared.head.Head.TheVariants as head
use Rattle.tag_lines.specs.Grammar.{expression, known_words}
use Rattle.tag_lines.specs.Lines.{head_of, names_behind}
use Rattle.tag_lines.specs.Uses.{uses_of}
use Rattle.tag_script.specs.declared.checks.Known.{Known}
use Rattle.tag_script.specs.declared.checks.Place.{Place}
use Rattle.tag_script.specs.declared.checks.Scope.{Scope}
use Rattle.tag_script.specs.declared.script.ScriptError.{ScriptError}
use Rattle.tag_script.specs.declared.script.ScriptError.TheVariants as fault

-- the tests and tags of the project, and the number of the first line that is too many
pub record Project : Type 0 where
  pub tests : List (List ℕ)
  pub tags : List (List ℕ)
  pub limit : Option ℕ

-- The reading is this one; want of memory may come anywhere.
abbrev pub Reads : {A : Type 0} → Result A ScriptError → Result A ScriptError → Type 0
Reads result reading = MatchResult result (λ x. reading ≡ Ok x) (λ e. e ≢ fault.Memory → reading ≡ Err e)

-- the line stands where a script may have no more lines
unfoldable pub excess : Option ℕ → ℕ → Option ScriptError
excess None number = None
excess (Some limit) number = if nat_le limit number then Some (fault.Bad limit) else None

-- the line is indented further, or has no indentation
abbrev pub is_further : ℕ → Row → Bool
is_further indent row = elim row.indent [ None ↦ true | Some other ↦ nat_lt indent other ]

abbrev pub is_indented_so : ℕ → Option ℕ → Bool
is_indented_so indent None = false
is_indented_so indent (Some other) = other == indent

-- the line is where none may stand: in a body too many, or with a 33rd name
abbrev pub is_past_limit : Place → Known → Bool
is_past_limit place known = place.room == 0 || nat_lt 32 (length known.names)

abbrev pub has_lines : List Row → Bool
has_lines [] = false
has_lines (row ∷ more) = true

-- it goes on an `if` where none is open, or lacks its body
abbrev pub is_misplaced : Bool → List Row → Head → Bool
is_misplaced in_arms body (head.If condition) = not (has_lines body)
is_misplaced in_arms body (head.Elif condition) = not (in_arms && has_lines body)
is_misplaced in_arms body head.Else = not (in_arms && has_lines body)
is_misplaced in_arms body other = false

-- the expression of a line
abbrev pub expr_in : Head → Option Expr
expr_in (head.Assign place value) = Some value
expr_in (head.Assert condition) = Some condition
expr_in (head.If condition) = Some condition
expr_in (head.Elif condition) = Some condition
expr_in other = None

abbrev pub tag_in : Head → Option ℕ
tag_in (head.Tag tag) = Some tag
tag_in other = None

abbrev pub expr_fault : Project → Known → ℕ → Option Expr → Option ScriptError
expr_fault project known number None = None
expr_fault project known number (Some x) =
    if not ((uses_of (length project.tests) known.assigned x).tests) then Some (fault.UnknownTest number) else
    (if not ((uses_of (length project.tests) known.assigned x).names) then Some (fault.Unassigned number) else None)

abbrev pub tag_fault : Project → ℕ → Option ℕ → Option ScriptError
tag_fault project number None = None
tag_fault project number (Some tag) = if nat_lt tag (length project.tags) then None else Some (fault.UnknownTag number)

-- what is wrong with what a line of a known form names; no line has both a tag and an expression
unfoldable pub named_fault : Project → Known → ℕ → Head → Option ScriptError
named_fault project known number said = elim (tag_fault project number (tag_in said)) [
  | Some e ↦ Some e
  | None ↦ expr_fault project known number (expr_in said)
]

abbrev pub or_fault : Head → Option ScriptError → Result Head ScriptError
or_fault said None = Ok said
or_fault said (Some e) = Err e

-- a line of a form, or of none
unfoldable pub formed : Bool → Project → Known → ℕ → List Row → Option Head → Result Head ScriptError
formed in_arms project known number body None = Err (fault.Bad number)
formed in_arms project known number body (Some said) =
    if is_misplaced in_arms body said then Err (fault.Bad number) else or_fault said (named_fault project known number said)

-- a line with these tokens
unfoldable pub worded : Bool → Project → Place → Known → ℕ → List Token → List Row → Result Head ScriptError
worded in_arms project place known number tokens body =
    if is_past_limit place known then Err (fault.Bad number) else
    formed in_arms project known number body (head_of project.tags known.names (expression (known_words project.tests known.names) (place.room - 1)) tokens)

-- a line that fits its block
unfoldable pub fitted : Bool → Project → Place → Known → Row → List Row → Result Head ScriptError
fitted in_arms project place known row body = elim row.tokens [
  | None ↦ Err (fault.Bad row.number)
  | Some tokens ↦ worded in_arms project place known row.number tokens body
]

-- What a line of a block says, where this is known with the names of the line, and these lines behind it are indented further.
-- `in_arms` where an `if` may go on here.
unfoldable pub line : Bool → Project → Place → Known → Row → List Row → Result Head ScriptError
line in_arms project place known row body = elim (excess project.limit row.number) [
  | Some e ↦ Err e
  | None ↦ if is_indented_so place.indent row.indent then fitted in_arms project place known row body else Err (fault.Indent row.number)
]

abbrev pub tokens_or_none : Row → List Token
tokens_or_none row = elim row.tokens [ None ↦ [] | Some tokens ↦ tokens ]

-- what is known with the names of a line
unfoldable pub named : Known → Row → Known
named known row = record { names = names_behind known.names (tokens_or_none row); assigned = known.assigned }

-- For proofs alone.

abbrev pub project_of : Scope → Project
project_of scope = record { tests = scope.tests.now; tags = scope.tags.now; limit = scope.limit }
