use Rattle.flat_clocks.proofs.Common.{refl, subst, add-one, arith, IfOk-weaker, flat_map, None, CaseItem, Stmt, names_of, IsFirst, clock_names, ClockNames, expr_reads, turn_reads, stmt_reads}
use Rattle.flat_clocks.proofs.Common.{item_reads, clocks_in, names_in}
use Rattle.flat_clocks.proofs.Firsts.{same, moved, more}
use Rattle.flat_clocks.proofs.StatementReadings.{item_is}
use Rattle.flat_clocks.proofs.StatementFirsts.{null_first, block_first, choice_first, only_first, case_first, loop_first, while_first, repeat_first, forever_first, waiting_first, delayed_first}
use Rattle.flat_clocks.proofs.StatementFirsts.{task_first, blocking_first, nonblocking_first}
use Rattle.flat_clocks.proofs.statements.+walk.Goals as goal

pub stmt_read-returns-in-SeqBlock : goal.stmt_read-returns-in-SeqBlock
stmt_read-returns-in-SeqBlock t c = IfOk-weaker c.block_read.result _ _ (λ o h. block_first (names_in c.args.names.now) c.args.stmt.now o c.in-SeqBlock.field-0 c.in-SeqBlock.field-1 c.in-SeqBlock.body _ c.in-SeqBlock.is c.as_slice.ensures h) c.block_read.ensures

pub stmt_read-returns-in-Case : goal.stmt_read-returns-in-Case
stmt_read-returns-in-Case t c = IfOk-weaker c.case_read.result _ _ (λ o h. case_first (names_in c.args.names.now) c.args.stmt.now o c.in-Case.field-0 c.in-Case.field-1 c.in-Case.selector _ c.in-Case.items _ c.in-Case.is c.get.ensures c.as_slice-in-Case.ensures h) c.case_read.ensures

pub stmt_read-returns-in-For : goal.stmt_read-returns-in-For
stmt_read-returns-in-For t c = IfOk-weaker c.loop_read.result _ _ (λ o h. loop_first (names_in c.args.names.now) c.args.stmt.now o c.in-For.field-0 c.in-For.start c.in-For.condition _ c.in-For.step c.in-For.body _ c.in-For.is c.get-in-For-2.ensures c.get-in-For.ensures h) c.loop_read.ensures

pub stmt_read-returns-in-While : goal.stmt_read-returns-in-While
stmt_read-returns-in-While t c = IfOk-weaker c.guarded_read-in-While.result _ _ (λ o h. while_first (names_in c.args.names.now) c.args.stmt.now o c.in-While.field-0 c.in-While.condition _ c.in-While.body _ c.in-While.is c.get-in-While-2.ensures c.get-in-While.ensures h) c.guarded_read-in-While.ensures

pub stmt_read-returns-in-Repeat : goal.stmt_read-returns-in-Repeat
stmt_read-returns-in-Repeat t c = IfOk-weaker c.guarded_read-in-Repeat.result _ _ (λ o h. repeat_first (names_in c.args.names.now) c.args.stmt.now o c.in-Repeat.field-0 c.in-Repeat.count _ c.in-Repeat.body _ c.in-Repeat.is c.get-in-Repeat-2.ensures c.get-in-Repeat.ensures h) c.guarded_read-in-Repeat.ensures

pub stmt_read-returns-in-Forever : goal.stmt_read-returns-in-Forever
stmt_read-returns-in-Forever t c = IfOk-weaker c.stmt_read.result _ _ (λ o h. forever_first (names_in c.args.names.now) c.args.stmt.now o c.in-Forever.field-0 c.in-Forever.body _ c.in-Forever.is c.get-in-Forever.ensures h) c.stmt_read.ensures

pub stmt_read-returns-in-EventControl : goal.stmt_read-returns-in-EventControl
stmt_read-returns-in-EventControl t c = IfOk-weaker c.stmt_read-in-EventControl.result _ _ (λ o h. waiting_first (names_in c.args.names.now) c.args.stmt.now o c.in-EventControl.field-0 c.in-EventControl.field-1 c.in-EventControl.body _ c.in-EventControl.is c.get-in-EventControl.ensures h) c.stmt_read-in-EventControl.ensures

pub stmt_read-returns-in-DelayControl : goal.stmt_read-returns-in-DelayControl
stmt_read-returns-in-DelayControl t c = IfOk-weaker c.guarded_read-in-DelayControl.result _ _ (λ o h. delayed_first (names_in c.args.names.now) c.args.stmt.now o c.in-DelayControl.field-0 c.in-DelayControl.delay _ c.in-DelayControl.body _ c.in-DelayControl.is c.get-in-DelayControl-2.ensures c.get-in-DelayControl.ensures h) c.guarded_read-in-DelayControl.ensures

pub stmt_read-returns-in-SystemTaskEnable : goal.stmt_read-returns-in-SystemTaskEnable
stmt_read-returns-in-SystemTaskEnable t c = task_first (names_in c.args.names.now) c.args.stmt.now c.arguments_read.result c.in-SystemTaskEnable.field-0 c.in-SystemTaskEnable.arguments _ c.in-SystemTaskEnable.is c.as_slice-in-SystemTaskEnable.ensures c.arguments_read.ensures

pub stmt_read-returns-in-BlockingAssignment : goal.stmt_read-returns-in-BlockingAssignment
stmt_read-returns-in-BlockingAssignment t c = blocking_first (names_in c.args.names.now) c.args.stmt.now c.assignment_read.result c.in-BlockingAssignment.assignment c.in-BlockingAssignment.is c.assignment_read.ensures

pub stmt_read-returns-in-NonblockingAssignment : goal.stmt_read-returns-in-NonblockingAssignment
stmt_read-returns-in-NonblockingAssignment t c = nonblocking_first (names_in c.args.names.now) c.args.stmt.now c.assignment_read-in-NonblockingAssignment.result c.in-NonblockingAssignment.assignment c.in-NonblockingAssignment.is c.assignment_read-in-NonblockingAssignment.ensures

pub stmt_read-returns-in-Null : goal.stmt_read-returns-in-Null
stmt_read-returns-in-Null t c = null_first (names_in c.args.names.now) c.args.stmt.now None c.in-Null.field-0 c.in-Null.is refl

pub block_read-loop-stmt-preserved : goal.block_read-loop-stmt-preserved
block_read-loop-stmt-preserved t c = rw add-one (more (λ (x : Stmt). stmt_reads x (names_in c.args.names.now)) c.args.body.now c.loop-stmt.stmt-index c.stmt-item.result c.loop-stmt.found c.in_ok-stmt_read.field-0 c.earlier-found.result c.stmt-item.is (omega arith) c.loop-stmt.invariant c.in_ok-stmt_read.ensures c.earlier-found.ensures)

pub items_read-loop-item-preserved : goal.items_read-loop-item-preserved
items_read-loop-item-preserved t c = rw add-one (more (λ (x : CaseItem). item_reads x (names_in c.args.names.now)) c.args.items.now c.loop-item.item-index c.item-item.result c.loop-item.found c.in_ok-item_read.field-0 c.earlier-found.result c.item-item.is (omega arith) c.loop-item.invariant c.in_ok-item_read.ensures c.earlier-found.ensures)

pub block_read-loop-stmt-init : goal.block_read-loop-stmt-init
block_read-loop-stmt-init t c = refl

pub items_read-loop-item-init : goal.items_read-loop-item-init
items_read-loop-item-init t c = refl

pub guarded_read-returns : goal.guarded_read-returns
guarded_read-returns t c = c.earlier.ensures _ _ c.expr_read-first.ensures c.in_ok-later.ensures

pub read_behind-returns : goal.read_behind-returns
read_behind-returns t c = λ reads h. c.earlier.ensures reads _ h c.in_ok-later.ensures

pub case_read-returns : goal.case_read-returns
case_read-returns t c = c.earlier.ensures _ _ c.expr_read-first.ensures c.in_ok-later.ensures

pub item_read-returns : goal.item_read-returns
item_read-returns t c = same _ _ _ (item_is c.args.item.now (names_in c.args.names.now)) (c.earlier.ensures _ _ (moved (flat_map (expr_reads (names_in c.args.names.now))) _ _ c.exprs_read-labels.result c.as_slice.ensures c.exprs_read-labels.ensures) (moved (λ (x : Stmt). stmt_reads x (names_in c.args.names.now)) _ _ _ c.get.ensures c.in_ok-body.ensures))

pub loop_read-returns : goal.loop_read-returns
loop_read-returns t c = c.earlier.ensures _ _ c.assignment_read-first.ensures (subst (λ (is : ClockNames). IsFirst (turn_reads c.args.condition.now c.args.step.now (stmt_reads c.args.body.now) is) c.in_ok-later.later) (c.in_ok-variables.ensures (clock_names (clocks_in c.args.names.now.clocks.now) (names_of c.args.names.now.scope.now))) c.in_ok-later.ensures)

pub turn_read-returns : goal.turn_read-returns
turn_read-returns t c = c.earlier-2.ensures _ _ c.expr_read-test.ensures (c.earlier.ensures _ _ c.assignment_read-next.ensures c.in_ok-found.ensures)

pub stmt_read-returns-in-Some : goal.stmt_read-returns-in-Some
stmt_read-returns-in-Some t c = IfOk-weaker c.read_behind.result _ _ (λ o h. choice_first (names_in c.args.names.now) c.args.stmt.now o c.in-Conditional.field-0 c.in-Conditional.condition _ c.in-Conditional.first _ c.in-Some.second _ c.in-Conditional.second c.in-Conditional.is c.in-Some.is c.get-test.ensures c.get-chosen.ensures c.get-other.ensures (h _ c.in_ok-found-in-Conditional.ensures)) c.read_behind.ensures

pub stmt_read-returns-in-None : goal.stmt_read-returns-in-None
stmt_read-returns-in-None t c = only_first (names_in c.args.names.now) c.args.stmt.now c.in_ok-found-in-Conditional.found c.in-Conditional.field-0 c.in-Conditional.condition _ c.in-Conditional.first _ c.in-Conditional.second c.in-Conditional.is c.in-None.is c.get-test.ensures c.get-chosen.ensures c.in_ok-found-in-Conditional.ensures
