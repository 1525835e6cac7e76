use Rattle.tb_code.proofs.Common.{◌≡◌, arith, refl, ap, ◌∙◌, ◌∷◌, [], map, map-append, choice_labels, labels_of, part_of, part_number}
use Rattle.std.proofs.lemmas.Result.{IfOk-weaker}
use Rattle.tb_code.proofs.Adding.{adds_nothing, adds_next, adds_part, along}
use Rattle.tb_code.proofs.Arms.{add_null, add_block, add_if, add_if_else, add_case, add_for, add_while, add_repeat, add_forever, add_event, add_delay, add_task, add_blocking, add_nonblocking}
use Rattle.tb_code.proofs.statement.+statement.Goals as goal

pub add_statement-returns-in-Null : goal.add_statement-returns-in-Null
add_statement-returns-in-Null t c = IfOk-weaker c.null.result _ _ (λ k h. add_null c.args.nodes.now.items c.null.new.nodes.items c.args.statement.now c.in-Null.field-0 k c.in-Null.is h) c.null.ensures

pub add_statement-returns-in_ok-body-in-SeqBlock : goal.add_statement-returns-in_ok-body-in-SeqBlock
add_statement-returns-in_ok-body-in-SeqBlock t c = IfOk-weaker c.seq_block.result _ _ (λ k h. add_block c.args.nodes.now.items c.add_all.new.nodes.items c.seq_block.new.nodes.items c.args.statement.now c.in-SeqBlock.field-0 c.in-SeqBlock.field-1 c.in-SeqBlock.body c.in_ok-body-in-SeqBlock.body k c.in-SeqBlock.is (rw c.as_slice.ensures at c.in_ok-body-in-SeqBlock.ensures) h) c.seq_block.ensures

pub add_statement-returns-in_ok-no-in-Some : goal.add_statement-returns-in_ok-no-in-Some
add_statement-returns-in_ok-no-in-Some t c = IfOk-weaker c.conditional.result _ _ (λ k h. add_if_else c.args.nodes.now.items c.add_statement.new.nodes.items c.add_statement-in-Some.new.nodes.items c.conditional.new.nodes.items c.args.statement.now c.in-Conditional.yes c.in-Some.no c.in-Conditional.field-0 c.in-Conditional.condition c.in-Conditional.no c.in_ok-yes-in-Conditional.yes c.in_ok-no-in-Some.no k c.in-Conditional.is c.in-Some.is (rw c.get.ensures at c.in_ok-yes-in-Conditional.ensures) (rw c.get-in-Some.ensures at c.in_ok-no-in-Some.ensures) (rw c.get-in-Some-2.ensures at h)) c.conditional.ensures

pub add_statement-returns-in-None : goal.add_statement-returns-in-None
add_statement-returns-in-None t c = IfOk-weaker c.conditional-in-None.result _ _ (λ k h. add_if c.args.nodes.now.items c.add_statement.new.nodes.items c.conditional-in-None.new.nodes.items c.args.statement.now c.in-Conditional.yes c.in-Conditional.field-0 c.in-Conditional.condition c.in-Conditional.no c.in_ok-yes-in-Conditional.yes k c.in-Conditional.is c.in-None.is (rw c.get.ensures at c.in_ok-yes-in-Conditional.ensures) (rw c.get-in-None.ensures at h)) c.conditional-in-None.ensures

pub add_statement-returns-in_ok-items-in-Case : goal.add_statement-returns-in_ok-items-in-Case
add_statement-returns-in_ok-items-in-Case t c = IfOk-weaker c.case.result _ _ (λ k h. add_case c.args.nodes.now.items c.add_items.new.nodes.items c.case.new.nodes.items c.args.statement.now c.in-Case.field-0 c.in-Case.kind c.in-Case.selector c.in-Case.items c.in_ok-items-in-Case.items k c.in-Case.is (rw c.as_slice-in-Case.ensures at c.in_ok-items-in-Case.ensures.labels) (rw c.as_slice-in-Case.ensures at c.in_ok-items-in-Case.ensures.adds) (rw c.get-in-Case.ensures at h)) c.case.ensures

pub add_statement-returns-in_ok-body-in-For : goal.add_statement-returns-in_ok-body-in-For
add_statement-returns-in_ok-body-in-For t c = IfOk-weaker c.for_loop.result _ _ (λ k h. add_for c.args.nodes.now.items c.add_statement-in-For.new.nodes.items c.for_loop.new.nodes.items c.args.statement.now c.in-For.body c.in-For.field-0 c.in-For.start c.in-For.step c.in-For.condition c.in_ok-body-in-For.body k c.in-For.is (rw c.get-in-For.ensures at c.in_ok-body-in-For.ensures) (rw c.get-in-For-2.ensures at h)) c.for_loop.ensures

pub add_statement-returns-in_ok-body-in-While : goal.add_statement-returns-in_ok-body-in-While
add_statement-returns-in_ok-body-in-While t c = IfOk-weaker c.while_loop.result _ _ (λ k h. add_while c.args.nodes.now.items c.add_statement-in-While.new.nodes.items c.while_loop.new.nodes.items c.args.statement.now c.in-While.body c.in-While.field-0 c.in-While.condition c.in_ok-body-in-While.body k c.in-While.is (rw c.get-in-While.ensures at c.in_ok-body-in-While.ensures) (rw c.get-in-While-2.ensures at h)) c.while_loop.ensures

pub add_statement-returns-in_ok-body-in-Repeat : goal.add_statement-returns-in_ok-body-in-Repeat
add_statement-returns-in_ok-body-in-Repeat t c = IfOk-weaker c.repeat.result _ _ (λ k h. add_repeat c.args.nodes.now.items c.add_statement-in-Repeat.new.nodes.items c.repeat.new.nodes.items c.args.statement.now c.in-Repeat.body c.in-Repeat.field-0 c.in-Repeat.count c.in_ok-body-in-Repeat.body k c.in-Repeat.is (rw c.get-in-Repeat.ensures at c.in_ok-body-in-Repeat.ensures) (rw c.get-in-Repeat-2.ensures at h)) c.repeat.ensures

pub add_statement-returns-in_ok-body-in-Forever : goal.add_statement-returns-in_ok-body-in-Forever
add_statement-returns-in_ok-body-in-Forever t c = IfOk-weaker c.forever.result _ _ (λ k h. add_forever c.args.nodes.now.items c.add_statement-in-Forever.new.nodes.items c.forever.new.nodes.items c.args.statement.now c.in-Forever.body c.in-Forever.field-0 c.in_ok-body-in-Forever.body k c.in-Forever.is (rw c.get-in-Forever.ensures at c.in_ok-body-in-Forever.ensures) h) c.forever.ensures

pub add_statement-returns-in_ok-body-in-EventControl : goal.add_statement-returns-in_ok-body-in-EventControl
add_statement-returns-in_ok-body-in-EventControl t c = IfOk-weaker c.event_control.result _ _ (λ k h. add_event c.args.nodes.now.items c.add_statement-in-EventControl.new.nodes.items c.event_control.new.nodes.items c.args.statement.now c.in-EventControl.body c.in-EventControl.field-0 c.in-EventControl.control c.in_ok-body-in-EventControl.body k c.in-EventControl.is (rw c.get-in-EventControl.ensures at c.in_ok-body-in-EventControl.ensures) h) c.event_control.ensures

pub add_statement-returns-in_ok-body-in-DelayControl-2 : goal.add_statement-returns-in_ok-body-in-DelayControl-2
add_statement-returns-in_ok-body-in-DelayControl-2 t c = IfOk-weaker c.seq_block-in-DelayControl.result _ _ (λ k h. add_delay c.args.nodes.now.items c.add_statement-in-DelayControl.new.nodes.items c.seq_block-in-DelayControl.new.nodes.items c.args.statement.now c.in-DelayControl.body c.in-DelayControl.field-0 c.in-DelayControl.field-1 c.in_ok-body-in-DelayControl.body k c.in_ok-body-in-DelayControl-2.body c.in-DelayControl.is c.in_ok-body-in-DelayControl-2.ensures (rw c.get-in-DelayControl.ensures at c.in_ok-body-in-DelayControl.ensures) h) c.seq_block-in-DelayControl.ensures

pub add_statement-returns-in-SystemTaskEnable : goal.add_statement-returns-in-SystemTaskEnable
add_statement-returns-in-SystemTaskEnable t c = IfOk-weaker c.system_task.result _ _ (λ k h. add_task c.args.nodes.now.items c.system_task.new.nodes.items c.args.statement.now c.in-SystemTaskEnable.name c.in-SystemTaskEnable.arguments k c.in-SystemTaskEnable.is (rw c.as_slice-in-SystemTaskEnable.ensures at h)) c.system_task.ensures

pub add_statement-returns-in-BlockingAssignment : goal.add_statement-returns-in-BlockingAssignment
add_statement-returns-in-BlockingAssignment t c = IfOk-weaker c.blocking.result _ _ (λ k h. add_blocking c.args.nodes.now.items c.blocking.new.nodes.items c.args.statement.now c.in-BlockingAssignment.assignment k c.in-BlockingAssignment.is h) c.blocking.ensures

pub add_statement-returns-in-NonblockingAssignment : goal.add_statement-returns-in-NonblockingAssignment
add_statement-returns-in-NonblockingAssignment t c = IfOk-weaker c.nonblocking.result _ _ (λ k h. add_nonblocking c.args.nodes.now.items c.nonblocking.new.nodes.items c.args.statement.now c.in-NonblockingAssignment.assignment k c.in-NonblockingAssignment.is h) c.nonblocking.ensures

pub add_all-loop-statement-init : goal.add_all-loop-statement-init
add_all-loop-statement-init t c = adds_nothing c.args.nodes.now.items c.from_vec-numbers.result [] (c.from_vec-numbers.ensures ∙ c.new.ensures.items) refl

pub add_all-loop-statement-preserved : goal.add_all-loop-statement-preserved
add_all-loop-statement-preserved t c = rw c.in_ok-push.ensures.ok (adds_next c.args.nodes.now.items c.loop-statement.nodes.items c.add_statement.new.nodes.items c.loop-statement.numbers c.in_ok-number.number c.loop-statement.statement-index c.args.statements.now c.statement-item.result (omega arith) c.statement-item.is c.loop-statement.invariant c.in_ok-number.ensures)

pub add_items-loop-item-init : goal.add_items-loop-item-init
add_items-loop-item-init t c =
    let none : c.from_vec-choices.result ≡ [] = c.from_vec-choices.ensures ∙ c.new.ensures.items in
    record { adds = adds_nothing c.args.nodes.now.items (map part_number c.from_vec-choices.result) [] (ap (map part_number) none) refl; labels = ap (map choice_labels) none }

pub add_items-loop-item-preserved : goal.add_items-loop-item-preserved
add_items-loop-item-preserved t c = record {
  adds = rw (c.in_ok-push.ensures.ok, map-append part_number c.loop-item.choices (c.in_ok-choice.choice ∷ [])) (adds_part part_of c.args.nodes.now.items c.loop-item.nodes.items c.add_item.new.nodes.items (map part_number c.loop-item.choices) (part_number c.in_ok-choice.choice) c.loop-item.item-index c.args.items.now c.item-item.result (omega arith) c.item-item.is c.loop-item.invariant.adds c.in_ok-choice.ensures.adds);
  labels = rw c.in_ok-push.ensures.ok (along labels_of choice_labels c.args.items.now c.loop-item.choices c.loop-item.item-index c.item-item.result c.in_ok-choice.choice (omega arith) c.item-item.is c.loop-item.invariant.labels c.in_ok-choice.ensures.labels);
}
