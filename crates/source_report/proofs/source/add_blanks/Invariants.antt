use Rattle.source_report.proofs.Common.{◌≡◌, ◌++◌, replicate}
use Rattle.source_report.proofs.source.add_blanks.Given as goal

-- the blanks so far and those to come are all blanks
abbrev pub invariant-loop-left : goal.invariant-loop-left
invariant-loop-left l = l.text.items ++ replicate l.left 32 ≡ l.initial.text.items ++ replicate l.count 32

abbrev pub decreases-loop-left : goal.decreases-loop-left
decreases-loop-left l = l.left
