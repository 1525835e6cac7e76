use Rattle.source_report.proofs.Common.{◌≡◌, map, slice_index, take}
use Rattle.source_report.proofs.line_counts.LineCounts.of_row.Given as goal

-- the counts so far are those of the first lists
abbrev pub invariant-loop-column : goal.invariant-loop-column
invariant-loop-column l = l.counts.items ≡ map (λ counts. slice_index counts.items l.row) (take l.column-index l.self.tags.items)
