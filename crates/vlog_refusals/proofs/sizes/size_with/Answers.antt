use Rattle.vlog_refusals.proofs.Common.{arith, add-one, names_of, element_whole}
use Rattle.vlog_refusals.proofs.SizeLemmas.{widened_more}
use Rattle.vlog_refusals.proofs.sizes.size_with.Goals as goal

pub shape_of-requires-in-loop-expr : goal.shape_of-requires-in-loop-expr
shape_of-requires-in-loop-expr c = element_whole (names_of c.args.scope.now) c.args.exprs.now c.loop-expr.expr-index c.expr-item.result c.expr-item.is (omega arith) c.requires.whole

pub loop-expr-preserved : goal.loop-expr-preserved
loop-expr-preserved c = (rw add-one (widened_more (names_of c.args.scope.now) c.args.size c.loop-expr.common c.shape_of.result c.joint-common.result c.args.exprs.now c.loop-expr.expr-index c.expr-item.result c.expr-item.is (omega arith) c.loop-expr.invariant.0 c.shape_of.ensures.shape c.joint-common.ensures.shape), c.joint-common.ensures.sized)
