use Rattle.vlog_refusals.proofs.Common.{◌≡◌, take, IsSized, names_of, widened}
use Rattle.vlog_refusals.proofs.sizes.size_with.Given as goal

abbrev pub invariant-loop-expr : goal.invariant-loop-expr
invariant-loop-expr l = (l.common ≡ widened (names_of l.scope) l.fn.size (take l.expr-index l.exprs)) × IsSized l.common
