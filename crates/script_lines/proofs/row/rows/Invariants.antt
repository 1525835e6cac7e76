use Rattle.std.proofs.Common.{◌≡◌, ◌++◌, drop}
use Rattle.script_lines.specs.Rows.{rows_of}
use Rattle.script_lines.proofs.row.rows.Given as goal

abbrev pub invariant-loop-line : goal.invariant-loop-line
invariant-loop-line l = l.rows ++ rows_of (drop l.line-index l.lines) ≡ rows_of l.lines
