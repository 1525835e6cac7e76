use Rattle.expr_plans.proofs.Common.{◌≡◌, take, names_of, least, plans, all_unsupported}
use Rattle.expr_plans.proofs.unsupported.+unsupported.Given as goal

abbrev pub invariant-unsupported_in_all-loop-expr : goal.invariant-unsupported_in_all-loop-expr
invariant-unsupported_in_all-loop-expr l = l.found ≡ least (all_unsupported (plans (names_of l.scope) (take l.expr-index l.exprs)))
