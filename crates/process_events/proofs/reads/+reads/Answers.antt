use Rattle.std.proofs.Common.{add-one, arith}
use Rattle.process_events.specs.Naming.{expr_reads}
use Rattle.process_events.proofs.Lists.{any_more}
use Rattle.process_events.proofs.reads.+reads.Goals as goal

pub any_expr_reads-loop-expr-preserved : goal.any_expr_reads-loop-expr-preserved
any_expr_reads-loop-expr-preserved t c = rw add-one (any_more (expr_reads c.args.name.now) c.args.exprs.now c.loop-expr.expr-index c.expr-item.result c.loop-expr.found c.expr_reads.result c.either-found.result c.expr-item.is (omega arith) c.loop-expr.invariant c.expr_reads.ensures c.either-found.ensures)
