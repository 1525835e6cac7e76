-- The reading of a report: its statements, or the fault of its first bad line.
use Rattle.std.specs.Prelude.{ℕ, List, Option, None, Some, Result, Ok, Err}
use Rattle.mcy_base.specs.declared.file.Line.{Line}
use Rattle.script_lines.specs.declared.row.Row.{Row}
use Rattle.script_lines.specs.Rows.{rows_of}
use Rattle.tag_script.specs.Blocks.{and_then}
use Rattle.tag_script.specs.Reading.{first_too_many}
use Rattle.tag_script.specs.declared.script.ScriptError.{ScriptError}
use Rattle.tag_script.specs.declared.script.ScriptError.TheVariants as fault
use Rattle.report_script.specs.declared.draft.Draft.{Draft}
use Rattle.report_script.specs.declared.report.Report.{Report}
use Rattle.report_script.specs.Blocks.{block_in, closed}
use Rattle.report_script.specs.Checks.{Project}

-- all statements are a report, unless there are too many lines
unfoldable pub report_by : Option ℕ → Draft → Result Report ScriptError
report_by None all = Ok (record { statements = closed all })
report_by (Some number) all = Err (fault.Bad number)

-- at most 32 bodies, parentheses and `not`s are open at a place
unfoldable pub report_in : Project → List Row → Result Report ScriptError
report_in project rows = and_then (block_in project 33 0 rows) (report_by project.limit)

-- a report has at most 1,000 lines
unfoldable pub report_of : List (List ℕ) → List Line → Result Report ScriptError
report_of tags lines = report_in (record { tags = tags; limit = first_too_many lines }) (rows_of lines)
