use Rattle.source_report.proofs.Common.{take, zip}
use Rattle.source_report.proofs.LineCounting.{AreSeen}
use Rattle.source_report.proofs.line_counts.counts_of.Given as goal

abbrev pub invariant-loop-mutation : goal.invariant-loop-mutation
invariant-loop-mutation l = AreSeen l.file l.wanted l.lines (take l.mutation (zip l.campaign.lines l.state.asks)) l.counts.items
