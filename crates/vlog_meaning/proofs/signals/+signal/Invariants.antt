use Rattle.vlog_meaning.proofs.Common.{◌≡◌, take, names_of, senses, all_signals, least}
use Rattle.vlog_meaning.proofs.signals.+signal.Given as goal

abbrev pub invariant-signal_in_all-loop-expr : goal.invariant-signal_in_all-loop-expr
invariant-signal_in_all-loop-expr l = l.found ≡ least (all_signals (senses (names_of l.scope) (take l.expr-index l.exprs)))
