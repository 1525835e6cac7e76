use Rattle.tb_values.proofs.Common.{add-one, arith, changes}
use Rattle.tb_values.proofs.Lists.{any_more}
use Rattle.tb_values.proofs.changing.+changes.Goals as goal

pub any_changes-loop-expr-preserved : goal.any_changes-loop-expr-preserved
any_changes-loop-expr-preserved t c = rw add-one (any_more changes c.args.exprs.now c.loop-expr.expr-index c.expr-item.result c.loop-expr.found c.changes.result c.either-found.result c.expr-item.is (omega arith) c.loop-expr.invariant c.changes.ensures c.either-found.ensures)
