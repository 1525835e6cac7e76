use Rattle.tb_checks.proofs.Common.{[], ◌∷◌, refl, ap, add-one, arith, IfOk-weaker, None, CaseItem, Delay, Unsupported, first_alone, ItemFaults, stmt_faults, item_faults, rules_in}
use Rattle.tb_checks.proofs.Firsts.{same, moved, more}
use Rattle.tb_checks.proofs.Layers.{item_is}
use Rattle.tb_checks.proofs.Arms.{null_first, block_first, choice_first, only_first, case_first, loop_first, while_first, repeat_first, forever_first, waiting_first, delayed_first, task_first}
use Rattle.tb_checks.proofs.Arms.{blocking_first, nonblocking_first}
use Rattle.tb_checks.proofs.statements.+walk.Goals as goal

pub statement_fault-returns-in-Null : goal.statement_fault-returns-in-Null
statement_fault-returns-in-Null t c = null_first (rules_in c.args.rules.now) c.args.stmt.now None c.in-Null.field-0 c.in-Null.is refl

pub statement_fault-returns-in-SeqBlock : goal.statement_fault-returns-in-SeqBlock
statement_fault-returns-in-SeqBlock t c = IfOk-weaker c.statements_fault.result _ _ (λ o h. block_first (rules_in c.args.rules.now) c.args.stmt.now o c.in-SeqBlock.field-0 c.in-SeqBlock.field-1 c.in-SeqBlock.body _ c.in-SeqBlock.is c.as_slice.ensures h) c.statements_fault.ensures

pub statement_fault-returns-in-Case : goal.statement_fault-returns-in-Case
statement_fault-returns-in-Case t c = IfOk-weaker c.case_statement_fault.result _ _ (λ o h. case_first (rules_in c.args.rules.now) c.args.stmt.now o c.in-Case.field-0 c.in-Case.field-1 c.in-Case.selector _ c.in-Case.items _ c.in-Case.is c.get.ensures c.as_slice-in-Case.ensures h) c.case_statement_fault.ensures

pub statement_fault-returns-in-For : goal.statement_fault-returns-in-For
statement_fault-returns-in-For t c = IfOk-weaker c.loop_fault.result _ _ (λ o h. loop_first (rules_in c.args.rules.now) c.args.stmt.now o c.in-For.field-0 c.in-For.start c.in-For.condition _ c.in-For.step c.in-For.body _ c.in-For.is c.get-in-For-2.ensures c.get-in-For.ensures h) c.loop_fault.ensures

pub statement_fault-returns-in-While : goal.statement_fault-returns-in-While
statement_fault-returns-in-While t c = IfOk-weaker c.guarded_fault-in-While.result _ _ (λ o h. while_first (rules_in c.args.rules.now) c.args.stmt.now o c.in-While.field-0 c.in-While.condition _ c.in-While.body _ c.in-While.is c.get-in-While-2.ensures c.get-in-While.ensures h) c.guarded_fault-in-While.ensures

pub statement_fault-returns-in-Repeat : goal.statement_fault-returns-in-Repeat
statement_fault-returns-in-Repeat t c = IfOk-weaker c.guarded_fault-in-Repeat.result _ _ (λ o h. repeat_first (rules_in c.args.rules.now) c.args.stmt.now o c.in-Repeat.field-0 c.in-Repeat.count _ c.in-Repeat.body _ c.in-Repeat.is c.get-in-Repeat-2.ensures c.get-in-Repeat.ensures h) c.guarded_fault-in-Repeat.ensures

pub statement_fault-returns-in-Forever : goal.statement_fault-returns-in-Forever
statement_fault-returns-in-Forever t c = IfOk-weaker c.statement_fault.result _ _ (λ o h. forever_first (rules_in c.args.rules.now) c.args.stmt.now o c.in-Forever.field-0 c.in-Forever.body _ c.in-Forever.is c.get-in-Forever.ensures h) c.statement_fault.ensures

pub statement_fault-returns-in-EventControl : goal.statement_fault-returns-in-EventControl
statement_fault-returns-in-EventControl t c = IfOk-weaker c.fault_behind-in-EventControl.result _ _ (λ o h. waiting_first (rules_in c.args.rules.now) c.args.stmt.now o c.in-EventControl.at c.in-EventControl.control c.in-EventControl.body _ c.in-EventControl.is c.get-in-EventControl.ensures (h _ c.control_fault-found.ensures)) c.fault_behind-in-EventControl.ensures

pub statement_fault-returns-in-DelayControl : goal.statement_fault-returns-in-DelayControl
statement_fault-returns-in-DelayControl t c = IfOk-weaker c.fault_behind-in-DelayControl.result _ _ (λ o h. delayed_first (rules_in c.args.rules.now) c.args.stmt.now o c.in-DelayControl.at c.in-DelayControl.field-1 c.in-DelayControl.body _ c.in-DelayControl.is c.get-in-DelayControl.ensures (h (Unsupported c.in-DelayControl.at Delay ∷ []) (first_alone (Unsupported c.in-DelayControl.at Delay)))) c.fault_behind-in-DelayControl.ensures

pub statement_fault-returns-in-SystemTaskEnable : goal.statement_fault-returns-in-SystemTaskEnable
statement_fault-returns-in-SystemTaskEnable t c = IfOk-weaker c.task_fault.result _ _ (λ o h. task_first (rules_in c.args.rules.now) c.args.stmt.now o c.in-SystemTaskEnable.name c.in-SystemTaskEnable.arguments _ c.in-SystemTaskEnable.is c.as_slice-in-SystemTaskEnable.ensures h) c.task_fault.ensures

pub statement_fault-returns-in-BlockingAssignment : goal.statement_fault-returns-in-BlockingAssignment
statement_fault-returns-in-BlockingAssignment t c = IfOk-weaker c.assignment_fault.result _ _ (λ o h. blocking_first (rules_in c.args.rules.now) c.args.stmt.now o c.in-BlockingAssignment.assignment c.in-BlockingAssignment.is h) c.assignment_fault.ensures

pub statement_fault-returns-in-NonblockingAssignment : goal.statement_fault-returns-in-NonblockingAssignment
statement_fault-returns-in-NonblockingAssignment t c = IfOk-weaker c.assignment_fault-in-NonblockingAssignment.result _ _ (λ o h. nonblocking_first (rules_in c.args.rules.now) c.args.stmt.now o c.in-NonblockingAssignment.assignment c.in-NonblockingAssignment.is h) c.assignment_fault-in-NonblockingAssignment.ensures

pub statement_fault-returns-in-Some : goal.statement_fault-returns-in-Some
statement_fault-returns-in-Some t c = IfOk-weaker c.fault_behind.result _ _ (λ o h. choice_first (rules_in c.args.rules.now) c.args.stmt.now o c.in-Conditional.field-0 c.in-Conditional.condition _ c.in-Conditional.first _ c.in-Some.second _ c.in-Conditional.second c.in-Conditional.is c.in-Some.is c.get-test.ensures c.get-chosen.ensures c.get-other.ensures (h _ c.in_ok-found-in-Conditional.ensures)) c.fault_behind.ensures

pub statement_fault-returns-in-None : goal.statement_fault-returns-in-None
statement_fault-returns-in-None t c = only_first (rules_in c.args.rules.now) c.args.stmt.now c.in_ok-found-in-Conditional.found c.in-Conditional.field-0 c.in-Conditional.condition _ c.in-Conditional.first _ c.in-Conditional.second c.in-Conditional.is c.in-None.is c.get-test.ensures c.get-chosen.ensures c.in_ok-found-in-Conditional.ensures

pub statements_fault-loop-stmt-init : goal.statements_fault-loop-stmt-init
statements_fault-loop-stmt-init t c = refl

pub items_fault-loop-item-init : goal.items_fault-loop-item-init
items_fault-loop-item-init t c = refl

pub statements_fault-loop-stmt-preserved : goal.statements_fault-loop-stmt-preserved
statements_fault-loop-stmt-preserved t c = rw add-one (more (stmt_faults (rules_in c.args.rules.now)) c.args.body.now c.loop-stmt.stmt-index c.stmt-item.result c.loop-stmt.found c.in_ok-statement_fault.field-0 c.earlier-found.result c.stmt-item.is (omega arith) c.loop-stmt.invariant c.in_ok-statement_fault.ensures c.earlier-found.ensures.joined)

pub items_fault-loop-item-preserved : goal.items_fault-loop-item-preserved
items_fault-loop-item-preserved t c = rw add-one (more (λ (i : CaseItem). (item_faults (rules_in c.args.rules.now) i).body) c.args.items.now c.loop-item.item-index c.item-item.result c.loop-item.found c.in_ok-item_fault.field-0 c.earlier-found.result c.item-item.is (omega arith) c.loop-item.invariant c.in_ok-item_fault.ensures c.earlier-found.ensures.joined)

pub guarded_fault-returns : goal.guarded_fault-returns
guarded_fault-returns t c = c.earlier.ensures.joined _ _ c.test_fault-first.ensures c.in_ok-later.ensures

pub fault_behind-returns : goal.fault_behind-returns
fault_behind-returns t c = λ faults h. c.earlier.ensures.joined faults _ h c.in_ok-later.ensures

pub case_statement_fault-returns : goal.case_statement_fault-returns
case_statement_fault-returns t c = c.earlier.ensures.joined _ _ (c.wrong-first.ensures.first _ c.case_fault.ensures) c.in_ok-later.ensures

pub item_fault-returns : goal.item_fault-returns
item_fault-returns t c = IfOk-weaker c.statement_fault.result _ _ (λ o h. same _ _ o (ap (λ (i : ItemFaults). i.body) (item_is (rules_in c.args.rules.now) c.args.item.now)) (moved (stmt_faults (rules_in c.args.rules.now)) _ _ o c.get.ensures h)) c.statement_fault.ensures

pub loop_fault-returns : goal.loop_fault-returns
loop_fault-returns t c = c.earlier-3.ensures.joined _ _ c.in_ok-first.ensures (c.earlier-2.ensures.joined _ _ c.test_fault-test.ensures (c.earlier.ensures.joined _ _ c.in_ok-next.ensures c.in_ok-found.ensures))
