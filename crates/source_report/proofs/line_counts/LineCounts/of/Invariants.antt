use Rattle.source_report.proofs.Common.{◌≡◌, ◌^◌, ℕ, length, slice_get, Some, Vec, Global, groups, Tag, AreCounted}
use Rattle.source_report.proofs.line_counts.LineCounts.of.Given as goal

-- the lists so far are those of the first tags
abbrev pub invariant-loop-tag : goal.invariant-loop-tag
invariant-loop-tag l =
    (length l.tags.items ≡ l.tag)
    × ((tag : ℕ) (counts : Vec ℕ Global) → slice_get l.tags.items tag ≡ Some counts → AreCounted l.campaign (groups l.campaign l.state.rows) l.file l.lines (Some (Tag (2 ^ tag))) counts.items)
