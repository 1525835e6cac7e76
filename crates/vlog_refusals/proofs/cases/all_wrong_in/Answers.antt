use Rattle.vlog_refusals.proofs.Common.{List, take, add-one, arith, flat_map, Expr, Fault, names_of, least_empty, wrong}
use Rattle.vlog_refusals.proofs.Lists.{flat_take}
use Rattle.vlog_refusals.proofs.cases.all_wrong_in.Goals as goal

pub loop-expr-init : goal.loop-expr-init
loop-expr-init g c = least_empty

pub loop-expr-preserved : goal.loop-expr-preserved
loop-expr-preserved g c =
    let w : Expr → List Fault = wrong g.P.Purpose.unsupported (names_of c.args.scope.now) in
    let more = flat_take w c.args.exprs.now c.loop-expr.expr-index c.expr-item.result c.expr-item.is (omega arith) in
    rw (add-one, more) (c.earlier-found.ensures.joined (flat_map w (take c.loop-expr.expr-index c.args.exprs.now)) (w c.expr-item.result) c.loop-expr.invariant c.wrong_in.ensures)
