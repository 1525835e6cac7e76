use Rattle.vlog_refusals.proofs.Common.{◌≡◌, take, flat_map, least, names_of, wrong}
use Rattle.vlog_refusals.proofs.cases.all_wrong_in.Given as goal

abbrev pub invariant-loop-expr : goal.invariant-loop-expr
invariant-loop-expr g l = l.found ≡ least (flat_map (wrong g.P.Purpose.unsupported (names_of l.scope)) (take l.expr-index l.exprs))
