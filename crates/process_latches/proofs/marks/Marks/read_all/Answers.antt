use Rattle.process_latches.proofs.Common.{add-one, arith, names_of}
use Rattle.process_latches.proofs.Reading.{more_reads}
use Rattle.process_latches.proofs.marks.Marks.read_all.Goals as goal

pub loop-expr-preserved : goal.loop-expr-preserved
loop-expr-preserved c = rw add-one (more_reads (names_of c.args.scope.now) c.args.exprs.now c.loop-expr.expr-index c.expr-item.result _ _ _ c.expr-item.is (omega arith) c.loop-expr.invariant c.in_ok-read.ensures)
