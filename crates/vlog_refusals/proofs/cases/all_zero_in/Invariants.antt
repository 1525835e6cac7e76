use Rattle.vlog_refusals.proofs.Common.{◌≡◌, take, flat_map, DivideByZero, least_at, names_of, zeros_at}
use Rattle.vlog_refusals.proofs.cases.all_zero_in.Given as goal

abbrev pub invariant-loop-expr : goal.invariant-loop-expr
invariant-loop-expr l = l.found ≡ least_at DivideByZero (flat_map (zeros_at (names_of l.scope) l.fn.size) (take l.expr-index l.exprs))
