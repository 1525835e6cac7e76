use Rattle.source_report.proofs.Common.{◌≡◌, ◌++◌, drop, columns}
use Rattle.source_report.proofs.source.add_columns.Given as goal

-- the columns so far and those to come are all columns
abbrev pub invariant-loop-count : goal.invariant-loop-count
invariant-loop-count l = l.text.items ++ columns l.mutations (drop l.count-index l.counts) ≡ l.initial.text.items ++ columns l.mutations l.counts
