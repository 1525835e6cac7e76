use Rattle.source_report.proofs.Common.{◌≡◌, ◌+◌, ◌++◌, groups, lines_from, source_lines}
use Rattle.source_report.proofs.source.add_file.Given as goal

-- the lines so far and those to come are all lines
abbrev pub invariant-loop-row : goal.invariant-loop-row
invariant-loop-row l =
    l.text.items ++ source_lines l.campaign (groups l.campaign l.state.rows) l.number (l.row + 1) (lines_from l.parts.items l.row)
    ≡ l.initial.text.items ++ source_lines l.campaign (groups l.campaign l.state.rows) l.number 1 (lines_from l.parts.items 0)
