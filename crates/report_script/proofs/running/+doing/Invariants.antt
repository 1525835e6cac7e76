use Rattle.report_script.proofs.Common.{◌≡◌, map, drop, after, doing, in_turn}
use Rattle.report_script.proofs.running.+doing.Given as goal

abbrev pub invariant-in_turn-loop-statement : goal.invariant-in_turn-loop-statement
invariant-in_turn-loop-statement l = after l.text.items (in_turn (map doing (drop l.statement-index l.statements)) l.counts) ≡ after l.fn.text.items (in_turn (map doing l.statements) l.counts)
