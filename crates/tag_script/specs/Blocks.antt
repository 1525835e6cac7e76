-- The blocks of a tag script: the lines of one indentation, with the bodies behind them (The Python Language Reference, 2.1.8).
--
-- The body of a line is the lines behind it that are indented further. Where the line opens a body, its first line fixes how far.
-- Where it opens none, these lines fit no block: they are read as lines of its own block, which refuses the first.
use Rattle.std.specs.Prelude.{ℕ, zero, suc, Bool, true, false, List, [], ◌∷◌, ◌++◌, None, Some, Result, Ok, Err, filter, take, if◌then◌else◌}
use Rattle.std.specs.List.{prefix_len}
use Rattle.script_lines.specs.declared.row.Row.{Row}
use Rattle.tag_lines.specs.declared.expr.Expr.{Expr}
use Rattle.tag_lines.specs.declared.head.Head.{Head}
use Rattle.tag_lines.specs.declared.head.Head.TheVariants as head
use Rattle.tag_lines.specs.Uses.{is_place}
use Rattle.tag_script.specs.declared.draft.Block.{Block}
use Rattle.tag_script.specs.declared.draft.Draft.{Draft}
use Rattle.tag_script.specs.declared.checks.Known.{Known}
use Rattle.tag_script.specs.declared.checks.Place.{Place}
use Rattle.tag_script.specs.declared.script.Arm.{Arm}
use Rattle.tag_script.specs.declared.script.ScriptError.{ScriptError}
use Rattle.tag_script.specs.declared.script.Statement.{Statement}
use Rattle.tag_script.specs.declared.script.Statement.TheVariants as s
use Rattle.tag_script.specs.Checks.{Project, is_further, line, named}

abbrev pub and_then : {A B : Type 0} → Result A ScriptError → (A → Result B ScriptError) → Result B ScriptError
and_then (Ok a) next = next a
and_then (Err e) next = Err e

-- Lines with their bodies.

-- a line of a block, and the lines behind it that are indented further than the block
pub record Part : Type 0 where
  pub row : Row
  pub body : List Row

-- how many lines in front are indented further
unfoldable pub body_len : ℕ → List Row → ℕ
body_len indent rows = prefix_len (is_further indent) rows

abbrev pub part_of : ℕ → Row → List Row → Part
part_of indent row more = record { row = row; body = take (body_len indent more) more }

-- the parts behind a body
unfoldable pub parts_behind : ℕ → List Row → List Part
parts_behind indent [] = []
parts_behind indent (row ∷ more) = if is_further indent row then parts_behind indent more else part_of indent row more ∷ parts_behind indent more

-- the parts of a block
unfoldable pub parts_of : ℕ → List Row → List Part
parts_of indent [] = []
parts_of indent (row ∷ more) = part_of indent row more ∷ parts_behind indent more

abbrev pub opens_body : Head → Bool
opens_body (head.If condition) = true
opens_body (head.Elif condition) = true
opens_body head.Else = true
opens_body other = false

abbrev pub first_indent : List Row → ℕ
first_indent [] = 0
first_indent (row ∷ more) = elim row.indent [ None ↦ 0 | Some indent ↦ indent ]

-- how far the lines of a body are to be indented
unfoldable pub inner_indent : ℕ → Head → List Row → ℕ
inner_indent indent said body = if opens_body said then first_indent body else indent

-- Statements. A draft has the statements before an `if` that is open, the arms of that `if` or none, and the places of the names
-- that each of these arms assigns.

abbrev pub no_statements : Draft
no_statements = record { done = []; arms = []; in_all = [] }

-- all its statements
abbrev pub closed : Draft → List Statement
closed draft = elim draft.arms [ [] ↦ draft.done | arm ∷ more ↦ draft.done ++ s.If draft.arms [] ∷ [] ]

abbrev pub is_open : Draft → Bool
is_open draft = elim draft.arms [ [] ↦ false | arm ∷ more ↦ true ]

-- what is known inside a body, with other assigned names
abbrev pub assigning : List ℕ → Known → Known
assigning places known = record { names = known.names; assigned = places }

abbrev pub with_place : List ℕ → ℕ → List ℕ
with_place places place = if is_place places place then places else places ++ place ∷ []

-- the places that are among the others, too
abbrev pub common : List ℕ → List ℕ → List ℕ
common places others = filter (λ place. is_place others place) places

-- a statement of one line, or none, behind which this is known
abbrev pub with_statements : Draft → List Statement → Known → Block
with_statements draft more known = record { draft = record { done = closed draft ++ more; arms = []; in_all = [] }; known = known }

abbrev pub arm_of : Expr → Block → Arm
arm_of condition inner = record { condition = condition; body = closed inner.draft }

-- an `if` begins with this arm, before which these names were assigned
abbrev pub begun : Draft → List ℕ → Expr → Block → Block
begun draft before condition inner = record {
  draft = record { done = closed draft; arms = arm_of condition inner ∷ []; in_all = inner.known.assigned };
  known = assigning before inner.known;
}

-- it goes on with `elif`
abbrev pub gone_on : Draft → List ℕ → Expr → Block → Block
gone_on draft before condition inner = record {
  draft = record { done = draft.done; arms = draft.arms ++ arm_of condition inner ∷ []; in_all = common draft.in_all inner.known.assigned };
  known = assigning before inner.known;
}

-- it ends with `else`: behind it the names are assigned that all arms assign
abbrev pub ended : Draft → Block → Block
ended draft inner = record {
  draft = record { done = draft.done ++ s.If draft.arms (closed inner.draft) ∷ []; arms = []; in_all = [] };
  known = assigning (common draft.in_all inner.known.assigned) inner.known;
}

-- the block with what a line says that has this body, where these names were assigned before it
unfoldable pub joined : Draft → List ℕ → ℕ → Head → Block → Block
joined draft before number (head.If condition) inner = begun draft before condition inner
joined draft before number (head.Elif condition) inner = gone_on draft before condition inner
joined draft before number head.Else inner = ended draft inner
joined draft before number (head.Assign place value) inner =
    with_statements draft (s.Assign place value ∷ []) (assigning (with_place inner.known.assigned place) inner.known)
joined draft before number (head.Tag tag) inner = with_statements draft (s.Tag tag ∷ []) inner.known
joined draft before number (head.Assert condition) inner = with_statements draft (s.Assert number condition ∷ []) inner.known
joined draft before number head.Pass inner = with_statements draft [] inner.known

-- The reading of a block, from its indentation, what is known before it, and its lines.

abbrev pub Reader : Type 0
Reader = ℕ → Known → List Row → Result Block ScriptError

abbrev pub new_block : Known → Block
new_block known = record { draft = no_statements; known = known }

-- a block with one line more, whose body `inside` reads
unfoldable pub with_part : Project → Reader → Place → Block → Part → Result Block ScriptError
with_part project inside place block part =
    and_then (line (is_open block.draft) project place (named block.known part.row) part.row part.body)
    (λ said. and_then (inside (inner_indent place.indent said part.body) (named block.known part.row) part.body)
    (λ inner. Ok (joined block.draft block.known.assigned part.row.number said inner)))

-- one line after the other, up to the first fault
unfoldable pub with_parts : Project → Reader → Place → Block → List Part → Result Block ScriptError
with_parts project inside place block [] = Ok block
with_parts project inside place block (part ∷ more) = and_then (with_part project inside place block part) (λ next. with_parts project inside place next more)

unfoldable pub block_by : Project → ℕ → Reader → Reader
block_by project room inside indent known rows = with_parts project inside (record { indent = indent; room = room }) (new_block known) (parts_of indent rows)

-- no body is read where no line may stand
unfoldable pub no_body : Reader
no_body indent known rows = Ok (new_block known)

-- A block, where `room` is one more than how many bodies, parentheses and `not`s may be opened in it, and 0 where the block is one
-- body too many.
unfoldable pub block_in : Project → ℕ → Reader
block_in project zero = block_by project zero no_body
block_in project (suc room) = block_by project (suc room) (block_in project room)

-- For proofs alone.

-- the bodies in such a block
unfoldable pub body_in : Project → ℕ → Reader
body_in project zero = no_body
body_in project (suc room) = block_in project room
