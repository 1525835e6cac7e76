use Rattle.source_report.proofs.Common.{◌≡◌, ◌+◌, ◌*◌, ◌≤◌, drop, groups, named_count}
use Rattle.source_report.proofs.requirement.named_count.Given as goal

-- the sum so far and that of the tags to come are the sum of all
abbrev pub invariant-loop-tag : goal.invariant-loop-tag
invariant-loop-tag l =
    (l.count + named_count l.campaign (groups l.campaign l.state.rows) l.wanted l.tag (drop l.tag l.campaign.tags) ≡ named_count l.campaign (groups l.campaign l.state.rows) l.wanted 0 l.campaign.tags)
    × (l.count ≤ 10000 * l.tag)
