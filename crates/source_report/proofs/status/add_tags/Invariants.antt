use Rattle.source_report.proofs.Common.{◌≡◌, ◌++◌, drop, string_bytes, groups, tag_lines}
use Rattle.source_report.proofs.status.add_tags.Given as goal

-- the lines so far and those to come are all lines
abbrev pub invariant-loop-tag : goal.invariant-loop-tag
invariant-loop-tag l =
    string_bytes l.text ++ tag_lines l.campaign (groups l.campaign l.state.rows) l.tag (drop l.tag l.campaign.tags)
    ≡ string_bytes l.initial.text ++ tag_lines l.campaign (groups l.campaign l.state.rows) 0 l.campaign.tags
