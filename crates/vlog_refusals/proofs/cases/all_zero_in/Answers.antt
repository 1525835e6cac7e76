use Rattle.vlog_refusals.proofs.Common.{arith, names_of, DivideByZero, least_nil, element_whole}
use Rattle.vlog_refusals.proofs.SizeLemmas.{within_at}
use Rattle.vlog_refusals.proofs.cases.all_zero_in.Goals as goal

pub loop-expr-init : goal.loop-expr-init
loop-expr-init c = least_nil DivideByZero

pub zero_in-requires-clause-whole : goal.zero_in-requires-clause-whole
zero_in-requires-clause-whole c = element_whole (names_of c.args.scope.now) c.args.exprs.now c.loop-expr.expr-index c.expr-item.result c.expr-item.is (omega arith) c.requires.whole

pub zero_in-requires-clause-context : goal.zero_in-requires-clause-context
zero_in-requires-clause-context c = within_at (names_of c.args.scope.now) c.args.size c.args.exprs.now c.loop-expr.expr-index c.expr-item.result c.expr-item.is (omega arith) c.requires.within
