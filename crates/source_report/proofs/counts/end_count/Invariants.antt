use Rattle.source_report.proofs.Common.{◌≡◌, ◌≤◌, take, count_by, is_end}
use Rattle.source_report.proofs.counts.end_count.Given as goal

abbrev pub invariant-loop-mutation : goal.invariant-loop-mutation
invariant-loop-mutation l = (l.count ≡ count_by (is_end l.end) (take l.mutation l.state.asks)) × (l.count ≤ l.mutation)
