-- The reading of a tag script: its statements, or the fault of its first bad line.
use Rattle.std.specs.Prelude.{ℕ, List, [], Option, None, Some, Result, Ok, Err, option_map, slice_get}
use Rattle.mcy_base.specs.declared.file.Line.{Line}
use Rattle.script_lines.specs.declared.row.Row.{Row}
use Rattle.script_lines.specs.Rows.{rows_of}
use Rattle.tag_script.specs.declared.draft.Block.{Block}
use Rattle.tag_script.specs.declared.checks.Known.{Known}
use Rattle.tag_script.specs.declared.script.Script.{Script}
use Rattle.tag_script.specs.declared.script.ScriptError.{ScriptError}
use Rattle.tag_script.specs.declared.script.ScriptError.TheVariants as fault
use Rattle.tag_script.specs.Blocks.{and_then, block_in, closed}
use Rattle.tag_script.specs.Checks.{Project}

abbrev pub nothing_known : Known
nothing_known = record { names = []; assigned = [] }

-- a script has at most 1,000 lines
abbrev pub first_too_many : List Line → Option ℕ
first_too_many lines = option_map (λ line. line.number) (slice_get lines 1000)

-- all statements are a script, unless there are too many lines
unfoldable pub script_by : Option ℕ → Block → Result Script ScriptError
script_by None all = Ok (record { statements = closed all.draft })
script_by (Some number) all = Err (fault.Bad number)

-- at most 32 bodies, parentheses and `not`s are open at a place
unfoldable pub script_in : Project → List Row → Result Script ScriptError
script_in project rows = and_then (block_in project 33 0 nothing_known rows) (script_by project.limit)

unfoldable pub script_of : List (List ℕ) → List (List ℕ) → List Line → Result Script ScriptError
script_of tests tags lines = script_in (record { tests = tests; tags = tags; limit = first_too_many lines }) (rows_of lines)
