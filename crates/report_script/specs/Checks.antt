-- A line of a report where it stands: what it says, or what is wrong with it. Of two faults of one line the one counts that
-- `ScriptError` has first.
use Rattle.std.specs.Prelude.{ℕ, ◌==◌, ◌-◌, Bool, true, false, not, ◌&&◌, List, Option, None, Some, Result, Ok, Err, length, if◌then◌else◌}
use Rattle.script_lines.specs.declared.row.Row.{Row}
use Rattle.script_lines.specs.declared.token.Token.{Token}
use Rattle.tag_script.specs.Checks.{excess, has_lines, is_indented_so}
use Rattle.tag_script.specs.declared.script.ScriptError.{ScriptError}
use Rattle.tag_script.specs.declared.script.ScriptError.TheVariants as fault
use Rattle.report_lines.specs.declared.head.Head.{Head}
use Rattle.report_lines.specs.declared.head.Head.TheVariants as head
use Rattle.report_lines.specs.Fits.{head_fits}
use Rattle.report_lines.specs.Lines.{head_of}
use Rattle.report_script.specs.declared.checks.Place.{Place}
use Rattle.report_script.specs.declared.checks.Scope.{Scope}

-- the tags of the project, and the number of the first line that is too many
pub record Project : Type 0 where
  pub tags : List (List ℕ)
  pub limit : Option ℕ

-- it goes on an `if` where none is open, or lacks its body
abbrev pub is_misplaced : Bool → List Row → Head → Bool
is_misplaced in_arms body (head.If condition) = not (has_lines body)
is_misplaced in_arms body (head.Elif condition) = not (in_arms && has_lines body)
is_misplaced in_arms body head.Else = not (in_arms && has_lines body)
is_misplaced in_arms body other = false

-- a line of a form, or of none
unfoldable pub formed : Bool → Project → ℕ → List Row → Option Head → Result Head ScriptError
formed in_arms project number body None = Err (fault.Bad number)
formed in_arms project number body (Some said) =
    if is_misplaced in_arms body said then Err (fault.Bad number) else
    (if head_fits (length project.tags) said then Ok said else Err (fault.UnknownTag number))

-- a line with these tokens, which may stand where a body may
unfoldable pub worded : Bool → Project → ℕ → ℕ → List Token → List Row → Result Head ScriptError
worded in_arms project room number tokens body =
    if room == 0 then Err (fault.Bad number) else
    formed in_arms project number body (head_of project.tags (room - 1) tokens)

-- a line that fits its block
unfoldable pub fitted : Bool → Project → Place → Row → List Row → Result Head ScriptError
fitted in_arms project place row body = elim row.tokens [
  | None ↦ Err (fault.Bad row.number)
  | Some tokens ↦ worded in_arms project place.room row.number tokens body
]

-- What a line of a block says, where these lines behind it are indented further. `in_arms` where an `if` may go on here.
unfoldable pub line : Bool → Project → Place → Row → List Row → Result Head ScriptError
line in_arms project place row body = elim (excess project.limit row.number) [
  | Some e ↦ Err e
  | None ↦ if is_indented_so place.indent row.indent then fitted in_arms project place row body else Err (fault.Indent row.number)
]

-- For proofs alone.

abbrev pub project_of : Scope → Project
project_of scope = record { tags = scope.tags.now; limit = scope.limit }
