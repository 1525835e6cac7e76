use Rattle.vlog_parse.proofs.Common.{◌≡◌, ◌++◌, drop, classes_from, classes}
use Rattle.vlog_parse.proofs.classes.classes.Given as goal

abbrev pub invariant-loop-at : goal.invariant-loop-at
invariant-loop-at l = l.list.items ++ classes_from l.at l.context (drop l.at l.tokens) ≡ classes l.tokens
