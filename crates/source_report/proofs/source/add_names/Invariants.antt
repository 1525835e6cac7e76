use Rattle.source_report.proofs.Common.{◌≡◌, ◌++◌, drop, tag_names}
use Rattle.source_report.proofs.source.add_names.Given as goal

-- the names so far and those to come are all names
abbrev pub invariant-loop-name : goal.invariant-loop-name
invariant-loop-name l = l.text.items ++ tag_names (drop l.name-index l.tags) ≡ l.initial.text.items ++ tag_names l.tags
