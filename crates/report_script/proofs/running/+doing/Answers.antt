use Rattle.report_script.proofs.Common.{arith}
use Rattle.report_script.proofs.Walking.{carried, if_other, if_picked, if_stops, print_is, stop_here, turn_end, turn_more, turn_stop}
use Rattle.report_script.proofs.running.+doing.Goals as goal

pub in_turn-returns-in-Some : goal.in_turn-returns-in-Some
in_turn-returns-in-Some t c = turn_stop c.args.counts.now c.args.statements.now c.loop-statement.statement-index c.loop-statement.text.items _ c.loop-statement.invariant c.statement-item.result _ c.in-Some.stopped (omega arith) c.statement-item.is (rw c.in-Some.is at c.in_ok-stopped.ensures)

pub in_turn-loop-statement-preserved : goal.in_turn-loop-statement-preserved
in_turn-loop-statement-preserved t c = turn_more c.args.counts.now c.args.statements.now c.loop-statement.statement-index c.loop-statement.text.items _ c.loop-statement.invariant c.statement-item.result _ (omega arith) c.statement-item.is (rw c.in_default.is at c.in_ok-stopped.ensures)

pub in_turn-returns : goal.in_turn-returns
in_turn-returns t c = turn_end c.args.counts.now c.args.statements.now c.loop-statement.statement-index c.loop-statement.text.items _ c.loop-statement.invariant (omega arith)

pub doing-returns-in-Print : goal.doing-returns-in-Print
doing-returns-in-Print t c = carried c.print.result _ _ _ _ (print_is c.args.counts.now c.args.statement.now c.in-Print.line c.in-Print.formats c.as_slice.result.now c.in-Print.values c.as_slice-in-Print.result.now c.in-Print.is c.as_slice.ensures c.as_slice-in-Print.ensures) c.print.ensures

pub doing-returns-in-Ok-Some : goal.doing-returns-in-Ok-Some
doing-returns-in-Ok-Some t c = carried c.in_turn.result _ _ _ _ (if_picked c.args.counts.now c.args.statement.now c.in-If.arms c.as_slice-arms.result.now c.in-If.other c.in-Ok-Some.place c.index-arms-place.result c.as_slice-in-Ok-Some.result.now c.in-If.is c.as_slice-arms.ensures (rw c.in-Ok-Some.field-0-is at c.in-Ok-Some.ensures.found) c.as_slice-in-Ok-Some.ensures) c.in_turn.ensures

pub doing-returns-in-Ok-None : goal.doing-returns-in-Ok-None
doing-returns-in-Ok-None t c = carried c.in_turn-in-Ok-None.result _ _ _ _ (if_other c.args.counts.now c.args.statement.now c.in-If.arms c.as_slice-arms.result.now c.in-If.other c.as_slice-in-Ok-None.result.now c.in-If.is c.as_slice-arms.ensures (rw c.in-Ok-None.field-0-is at c.in-Ok-None.ensures.found) c.as_slice-in-Ok-None.ensures) c.in_turn-in-Ok-None.ensures

pub doing-returns-in-Err : goal.doing-returns-in-Err
doing-returns-in-Err t c = stop_here c.args.text.now.items c.in-Err.stopped _ (if_stops c.args.counts.now c.args.statement.now c.in-If.arms c.as_slice-arms.result.now c.in-If.other c.in-Err.stopped c.in-If.is c.as_slice-arms.ensures c.in-Err.ensures.stopped)
