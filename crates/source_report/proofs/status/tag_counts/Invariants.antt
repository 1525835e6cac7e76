use Rattle.source_report.proofs.Common.{◌≡◌, ◌++◌, drop, groups, tag_counts}
use Rattle.source_report.proofs.status.tag_counts.Given as goal

-- the counts so far and those to come are all counts
abbrev pub invariant-loop-tag : goal.invariant-loop-tag
invariant-loop-tag l =
    l.counts.items ++ tag_counts l.campaign (groups l.campaign l.state.rows) l.tag (drop l.tag l.campaign.tags)
    ≡ tag_counts l.campaign (groups l.campaign l.state.rows) 0 l.campaign.tags
