-- The blocks of a report: the lines of one indentation, with the bodies behind them, parted as those of a tag script.
use Rattle.std.specs.Prelude.{ℕ, zero, suc, Bool, true, false, List, [], ◌∷◌, ◌++◌, Result, Ok, if◌then◌else◌}
use Rattle.script_lines.specs.declared.row.Row.{Row}
use Rattle.tag_script.specs.Blocks.{Part, and_then, first_indent, parts_of}
use Rattle.tag_script.specs.declared.script.ScriptError.{ScriptError}
use Rattle.report_lines.specs.declared.expr.Expr.{Expr}
use Rattle.report_lines.specs.declared.head.Head.{Head}
use Rattle.report_lines.specs.declared.head.Head.TheVariants as head
use Rattle.report_script.specs.declared.checks.Place.{Place}
use Rattle.report_script.specs.declared.draft.Draft.{Draft}
use Rattle.report_script.specs.declared.report.Arm.{Arm}
use Rattle.report_script.specs.declared.report.Statement.{Statement}
use Rattle.report_script.specs.declared.report.Statement.TheVariants as s
use Rattle.report_script.specs.Checks.{Project, line}

-- Statements. A draft has the statements before an `if` that is open, and the arms of that `if` or none.

abbrev pub new_draft : Draft
new_draft = record { done = []; arms = [] }

-- all its statements
abbrev pub closed : Draft → List Statement
closed draft = elim draft.arms [ [] ↦ draft.done | arm ∷ more ↦ draft.done ++ s.If draft.arms [] ∷ [] ]

abbrev pub is_open : Draft → Bool
is_open draft = elim draft.arms [ [] ↦ false | arm ∷ more ↦ true ]

abbrev pub arm_of : ℕ → Expr → Draft → Arm
arm_of line condition inner = record { line = line; condition = condition; body = closed inner }

-- the draft with what the line with this number says, which has this body
unfoldable pub joined : Draft → ℕ → Head → Draft → Draft
joined draft number (head.If condition) inner = record { done = closed draft; arms = arm_of number condition inner ∷ [] }
joined draft number (head.Elif condition) inner = record { done = draft.done; arms = draft.arms ++ arm_of number condition inner ∷ [] }
joined draft number head.Else inner = record { done = draft.done ++ s.If draft.arms (closed inner) ∷ []; arms = [] }
joined draft number (head.Print formats values) inner = record { done = closed draft ++ s.Print number formats values ∷ []; arms = [] }
joined draft number head.Pass inner = record { done = closed draft; arms = [] }

-- The reading of a block, from its indentation and its lines.

abbrev pub opens_body : Head → Bool
opens_body (head.If condition) = true
opens_body (head.Elif condition) = true
opens_body head.Else = true
opens_body other = false

-- how far the lines of a body are to be indented
unfoldable pub inner_indent : ℕ → Head → List Row → ℕ
inner_indent indent said body = if opens_body said then first_indent body else indent

abbrev pub Reader : Type 0
Reader = ℕ → List Row → Result Draft ScriptError

-- a draft with one line more, whose body `inside` reads
unfoldable pub with_part : Project → Reader → Place → Draft → Part → Result Draft ScriptError
with_part project inside place draft part =
    and_then (line (is_open draft) project place part.row part.body)
    (λ said. and_then (inside (inner_indent place.indent said part.body) part.body)
    (λ inner. Ok (joined draft part.row.number said inner)))

-- one line after the other, up to the first fault
unfoldable pub with_parts : Project → Reader → Place → Draft → List Part → Result Draft ScriptError
with_parts project inside place draft [] = Ok draft
with_parts project inside place draft (part ∷ more) = and_then (with_part project inside place draft part) (λ next. with_parts project inside place next more)

unfoldable pub block_by : Project → ℕ → Reader → Reader
block_by project room inside indent rows = with_parts project inside (record { indent = indent; room = room }) new_draft (parts_of indent rows)

-- no body is read where no line may stand
unfoldable pub no_body : Reader
no_body indent rows = Ok new_draft

-- A block, where `room` is one more than how many bodies, parentheses and `not`s may be opened in it, and 0 where the block is one
-- body too many.
unfoldable pub block_in : Project → ℕ → Reader
block_in project zero = block_by project zero no_body
block_in project (suc room) = block_by project (suc room) (block_in project room)

-- For proofs alone.

-- the bodies in such a block
unfoldable pub body_in : Project → ℕ → Reader
body_in project zero = no_body
body_in project (suc room) = block_in project room
