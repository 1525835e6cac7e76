use Rattle.source_report.proofs.Common.{◌≡◌, ◌++◌, drop, tags_text}
use Rattle.source_report.proofs.list.add_tags.Given as goal

-- the tags so far and those to come are all tags
abbrev pub invariant-loop-tag : goal.invariant-loop-tag
invariant-loop-tag l = l.text.items ++ tags_text l.ask l.tag (drop l.tag l.tags) ≡ l.initial.text.items ++ tags_text l.ask 0 l.tags
