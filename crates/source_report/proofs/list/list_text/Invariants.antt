use Rattle.source_report.proofs.Common.{◌≡◌, ◌-◌, ◌++◌, length, drop, groups, groups_from, list_lines}
use Rattle.source_report.proofs.list.list_text.Given as goal

-- the lines so far and those to come are all lines
abbrev pub invariant-loop-number : goal.invariant-loop-number
invariant-loop-number l =
    l.text.items ++ list_lines l.campaign l.number (drop l.number l.campaign.mutations) (groups_from l.campaign l.number (length l.campaign.mutations - l.number) l.state.rows)
    ≡ list_lines l.campaign 0 l.campaign.mutations (groups l.campaign l.state.rows)
