use Rattle.process_latches.proofs.Common.{◌∙◌, ◌<◌, ◌∷◌, [], ℕ, map, take, length, refl, sym, ap, subst, arith, add-one, rules, false, None, Some, Option, IfSome, flat_map, on_ok_weaker, Word}
use Rattle.process_latches.proofs.Common.{left_lemmas, Decl, Constant, Names, names_of, with_name, these_nil, least_none, item_steps, followed, steps_of, labelled, AreSized, case_faults, labels_in}
use Rattle.process_latches.proofs.Common.{loop_of, IsMarkedTurn, AreArms}
use Rattle.vlog_syntax.specs.declared.stmt.Stmt.TheViews.{the_lemmas}
use Rattle.elab_proc.proofs.TurnLemmas.{sized_after, some_after, alike_after, put_back, turn_goes}
use Rattle.process_latches.proofs.Adding.{added_none}
use Rattle.process_latches.proofs.Bodies.{bodies_start, bodies_on, bodies_end, case_stopped}
use Rattle.process_latches.proofs.Choosing.{case_marked, arms_start, arms_skip, arms_more, arms_end, last_own, last_none}
use Rattle.process_latches.proofs.Turning.{fails_marked, ends_marked, stops_marked, leads_on, leads_end, leads_none}
use Rattle.process_latches.proofs.Walking.{continues_start, continues_on, continues_end, block_marked, stmt_case, stmt_loop, stmt_blocking, stmt_nonblocking, stmt_null, stmt_while, stmt_repeat}
use Rattle.process_latches.proofs.Walking.{stmt_forever, stmt_event, stmt_delay, stmt_task, choice_both, choice_one, start_none, start_constant, start_fails, start_goes, start_no_name}
use Rattle.process_latches.proofs.walk.+walk.Goals as goal

pub mark_block-mark-requires : goal.mark_block-mark-requires
mark_block-mark-requires t c = (search (rules, the_lemmas), subst AreSized (sym c.loop-stmt.invariant.1) c.requires)

pub mark_block-loop-stmt-init : goal.mark_block-loop-stmt-init
mark_block-loop-stmt-init t c = (continues_start (names_of c.args.scope.now) c.args.body.now c.args.marks.now, refl)

pub mark_block-loop-stmt-preserved : goal.mark_block-loop-stmt-preserved
mark_block-loop-stmt-preserved t c = (rw add-one (continues_on (names_of c.args.scope.now) (names_of c.loop-stmt.scope) c.args.body.now c.loop-stmt.stmt-index c.stmt-item.result c.args.marks.now c.loop-stmt.marks c.mark.new.marks c.stmt-item.is (omega arith) c.loop-stmt.invariant.1 c.loop-stmt.invariant.0 c.in_ok-mark.ensures.marked), c.in_ok-mark.ensures.kept ∙ c.loop-stmt.invariant.1)

pub mark_block-returns-clause-marked : goal.mark_block-returns-clause-marked
mark_block-returns-clause-marked t c = continues_end (names_of c.args.scope.now) c.args.body.now c.loop-stmt.stmt-index c.args.marks.now c.loop-stmt.marks (omega arith) c.loop-stmt.invariant.0 (added_none c.loop-stmt.marks)

pub mark_turns-mark_each_turn-requires : goal.mark_turns-mark_each_turn-requires
mark_turns-mark_each_turn-requires t c = (search (rules, the_lemmas), (sized_after (names_of c.args.scope.now) (names_of c.replace-declared.new.self) c.args.header.now.name.now.name c.args.first c.args.header.now.is_signed ((rw c.as_str-name.ensures at c.replace-declared.ensures.declared) ∙ ap (λ (d : Decl). with_name (names_of c.args.scope.now) c.args.header.now.name.now.name (Some d)) c.variable.ensures) c.requires.sized, (some_after (names_of c.args.scope.now) (names_of c.replace-declared.new.self) c.args.header.now.name.now.name (Constant c.args.first 0 c.args.header.now.is_signed) ((rw c.as_str-name.ensures at c.replace-declared.ensures.declared) ∙ ap (λ (d : Decl). with_name (names_of c.args.scope.now) c.args.header.now.name.now.name (Some d)) c.variable.ensures), c.requires.width)))

pub mark_turns-returns-clause-marked : goal.mark_turns-returns-clause-marked
mark_turns-returns-clause-marked t c = c.in_ok-mark_each_turn.ensures.marked (names_of c.args.scope.now) (alike_after (names_of c.args.scope.now) (names_of c.args.scope.now) (names_of c.replace-declared.new.self) c.args.header.now.name.now.name (Some (Constant c.args.first 0 c.args.header.now.is_signed)) ((rw c.as_str-name.ensures at c.replace-declared.ensures.declared) ∙ ap (λ (d : Decl). with_name (names_of c.args.scope.now) c.args.header.now.name.now.name (Some d)) c.variable.ensures) (λ d. refl))

pub mark_turns-returns-clause-kept : goal.mark_turns-returns-clause-kept
mark_turns-returns-clause-kept t c = put_back (names_of c.args.scope.now) (names_of c.replace-declared.new.self) (names_of c.mark_each_turn.new.scope) (names_of c.replace.new.self) c.args.header.now.name.now.name (Some (Constant c.args.first 0 c.args.header.now.is_signed)) c.replace-declared.result ((rw c.as_str-name.ensures at c.replace-declared.ensures.declared) ∙ ap (λ (d : Decl). with_name (names_of c.args.scope.now) c.args.header.now.name.now.name (Some d)) c.variable.ensures) c.in_ok-mark_each_turn.ensures.kept (rw c.as_str-name.ensures at c.replace.ensures.declared) (rw c.as_str-name.ensures at c.replace-declared.ensures.replaced)

pub mark_turn-mark-requires : goal.mark_turn-mark-requires
mark_turn-mark-requires t c = (search (rules, the_lemmas), sized_after (names_of c.args.scope.now) (names_of c.replace.new.self) c.args.header.now.name.now.name c.args.word c.args.header.now.is_signed ((rw c.as_str.ensures at c.replace.ensures.declared) ∙ ap (λ (d : Decl). with_name (names_of c.args.scope.now) c.args.header.now.name.now.name (Some d)) c.variable.ensures) c.requires.sized)

pub mark-mark-requires-in-Some : goal.mark-mark-requires-in-Some
mark-mark-requires-in-Some t c = (search (rules, the_lemmas), subst AreSized (sym c.in_ok-mark-in-Conditional.ensures.kept) c.requires)

pub mark-returns-in-SeqBlock-clause-marked : goal.mark-returns-in-SeqBlock-clause-marked
mark-returns-in-SeqBlock-clause-marked t c = on_ok_weaker c.mark_block.result (λ h. block_marked (names_of c.args.scope.now) c.args.marks.now c.mark_block.new.marks c.args.stmt.now c.in-SeqBlock.field-0 c.in-SeqBlock.field-1 c.in-SeqBlock.body c.in-SeqBlock.is (rw c.as_slice.ensures at h)) c.mark_block.ensures.marked

pub mark-returns-in-For-clause-marked : goal.mark-returns-in-For-clause-marked
mark-returns-in-For-clause-marked t c = on_ok_weaker c.mark_loop.result (λ h. stmt_loop (names_of c.args.scope.now) c.args.marks.now c.mark_loop.new.marks c.args.stmt.now c.in-For.span c.in-For.start c.in-For.condition c.in-For.step c.in-For.body c.in-For.is (rw (c.get-in-For.ensures, c.get-in-For-2.ensures) at h)) c.mark_loop.ensures.marked

pub mark-returns-in-Case-clause-marked : goal.mark-returns-in-Case-clause-marked
mark-returns-in-Case-clause-marked t c = on_ok_weaker c.mark_case.result (λ h. stmt_case (names_of c.args.scope.now) c.args.marks.now c.mark_case.new.marks c.args.stmt.now c.in-Case.field-0 c.in-Case.kind c.in-Case.selector _ c.in-Case.items _ c.in-Case.is c.get.ensures c.as_slice-in-Case.ensures h) c.mark_case.ensures.marked

pub mark-returns-in-BlockingAssignment-clause-marked : goal.mark-returns-in-BlockingAssignment-clause-marked
mark-returns-in-BlockingAssignment-clause-marked t c = on_ok_weaker c.mark_assignment.result (λ h. stmt_blocking (names_of c.args.scope.now) c.args.marks.now c.mark_assignment.new.marks c.args.stmt.now c.in-BlockingAssignment.assignment c.in-BlockingAssignment.is h) c.mark_assignment.ensures

pub mark-returns-clause-marked : goal.mark-returns-clause-marked
mark-returns-clause-marked t c = on_ok_weaker c.mark_assignment-in-NonblockingAssignment.result (λ h. stmt_nonblocking (names_of c.args.scope.now) c.args.marks.now c.mark_assignment-in-NonblockingAssignment.new.marks c.args.stmt.now c.in-NonblockingAssignment.assignment c.in-NonblockingAssignment.is h) c.mark_assignment-in-NonblockingAssignment.ensures

pub mark-returns-in-Some-clause-marked : goal.mark-returns-in-Some-clause-marked
mark-returns-in-Some-clause-marked t c = choice_both (names_of c.args.scope.now) c.args.marks.now c.choose.new.marks (names_of c.mark.new.scope) c.args.stmt.now c.in-Conditional.field-0 c.in-Conditional.condition c.get-test.result.now c.in-Conditional.yes c.get-body.result.now c.in-Some.no c.get-other.result.now c.in-Conditional.no c.read_test.new.self c.new-first.result c.mark.new.marks c.new-second.result c.mark-in-Some.new.marks c.in-Conditional.is c.in-Some.is c.get-test.ensures c.get-body.ensures c.get-other.ensures c.in_ok-mark-in-Conditional.ensures.kept c.in_ok-read_test-in-Conditional.ensures c.new-first.ensures c.in_ok-mark-in-Conditional.ensures.marked c.new-second.ensures c.in_ok-mark-in-Some.ensures.marked c.in_ok-choose-in-Some.ensures

pub mark-returns-in-Some-clause-kept : goal.mark-returns-in-Some-clause-kept
mark-returns-in-Some-clause-kept t c = c.in_ok-mark-in-Some.ensures.kept ∙ c.in_ok-mark-in-Conditional.ensures.kept

pub mark-returns-in-Conditional-clause-marked : goal.mark-returns-in-Conditional-clause-marked
mark-returns-in-Conditional-clause-marked t c = choice_one (names_of c.args.scope.now) c.args.marks.now c.choose-in-None.new.marks c.args.stmt.now c.in-Conditional.field-0 c.in-Conditional.condition c.get-test.result.now c.in-Conditional.yes c.get-body.result.now c.in-Conditional.no c.read_test.new.self c.new-first.result c.mark.new.marks c.new-second.result c.in-Conditional.is c.in-None.is c.get-test.ensures c.get-body.ensures c.in_ok-read_test-in-Conditional.ensures c.new-first.ensures c.in_ok-mark-in-Conditional.ensures.marked c.new-second.ensures c.in_ok-choose-in-None.ensures

pub mark-returns-in-Null-clause-marked : goal.mark-returns-in-Null-clause-marked
mark-returns-in-Null-clause-marked t c = stmt_null (names_of c.args.scope.now) c.args.marks.now c.args.marks.now c.args.stmt.now _ c.in-Null.is

pub mark-returns-in-While-clause-marked : goal.mark-returns-in-While-clause-marked
mark-returns-in-While-clause-marked t c = stmt_while (names_of c.args.scope.now) c.args.marks.now c.args.marks.now c.args.stmt.now _ _ _ c.in-While.is

pub mark-returns-in-Repeat-clause-marked : goal.mark-returns-in-Repeat-clause-marked
mark-returns-in-Repeat-clause-marked t c = stmt_repeat (names_of c.args.scope.now) c.args.marks.now c.args.marks.now c.args.stmt.now _ _ _ c.in-Repeat.is

pub mark-returns-in-Forever-clause-marked : goal.mark-returns-in-Forever-clause-marked
mark-returns-in-Forever-clause-marked t c = stmt_forever (names_of c.args.scope.now) c.args.marks.now c.args.marks.now c.args.stmt.now _ _ c.in-Forever.is

pub mark-returns-in-EventControl-clause-marked : goal.mark-returns-in-EventControl-clause-marked
mark-returns-in-EventControl-clause-marked t c = stmt_event (names_of c.args.scope.now) c.args.marks.now c.args.marks.now c.args.stmt.now _ _ _ c.in-EventControl.is

pub mark-returns-in-DelayControl-clause-marked : goal.mark-returns-in-DelayControl-clause-marked
mark-returns-in-DelayControl-clause-marked t c = stmt_delay (names_of c.args.scope.now) c.args.marks.now c.args.marks.now c.args.stmt.now _ _ _ c.in-DelayControl.is

pub mark-returns-in-SystemTaskEnable-clause-marked : goal.mark-returns-in-SystemTaskEnable-clause-marked
mark-returns-in-SystemTaskEnable-clause-marked t c = stmt_task (names_of c.args.scope.now) c.args.marks.now c.args.marks.now c.args.stmt.now _ _ c.in-SystemTaskEnable.is

pub mark_case-arms_in-requires : goal.mark_case-arms_in-requires
mark_case-arms_in-requires t c = these_nil _ _ (least_none (case_faults (names_of c.args.scope.now) (c.args.selector.now ∷ flat_map labels_in c.args.items.now)) (sym c.case_fault.ensures ∙ c.in-None.is))

pub mark_case-mark_last-requires : goal.mark_case-mark_last-requires
mark_case-mark_last-requires t c = (search (rules, the_lemmas), (c.requires, c.in_ok-chosen-in-None.ensures.last))

pub mark_case-mark_arms-requires : goal.mark_case-mark_arms-requires
mark_case-mark_arms-requires t c = (search (rules, the_lemmas), (subst AreSized (sym c.in_ok-last-in-None.ensures.kept) c.requires, c.in_ok-chosen-in-None.ensures.before))

pub mark_case-returns-in-Some-clause-marked : goal.mark_case-returns-in-Some-clause-marked
mark_case-returns-in-Some-clause-marked t c = on_ok_weaker c.mark_bodies.result (λ h. case_stopped (names_of c.args.scope.now) c.args.kind c.args.selector.now c.args.items.now c.case_fault.result c.in-Some.field-0 c.args.marks.now c.stop.new.self c.mark_bodies.new.marks c.case_fault.ensures c.in-Some.is c.stop.ensures h) c.mark_bodies.ensures.marked

pub mark_bodies-mark-requires : goal.mark_bodies-mark-requires
mark_bodies-mark-requires t c = (search (rules, the_lemmas), subst AreSized (sym c.loop-item.invariant.1) c.requires)

pub mark_bodies-loop-item-init : goal.mark_bodies-loop-item-init
mark_bodies-loop-item-init t c = (bodies_start (names_of c.args.scope.now) c.args.items.now c.args.marks.now, refl)

pub mark_bodies-loop-item-preserved : goal.mark_bodies-loop-item-preserved
mark_bodies-loop-item-preserved t c = (rw add-one (bodies_on (names_of c.args.scope.now) (names_of c.loop-item.scope) c.args.items.now c.loop-item.item-index c.item-item.result c.args.marks.now c.loop-item.marks c.mark.new.marks c.item-item.is (omega arith) c.loop-item.invariant.1 c.loop-item.invariant.0 (rw c.get.ensures at c.in_ok-mark.ensures.marked)), c.in_ok-mark.ensures.kept ∙ c.loop-item.invariant.1)

pub mark_bodies-returns-clause-marked : goal.mark_bodies-returns-clause-marked
mark_bodies-returns-clause-marked t c = bodies_end (names_of c.args.scope.now) c.args.items.now c.loop-item.item-index c.args.marks.now c.loop-item.marks (omega arith) c.loop-item.invariant.0 (added_none c.loop-item.marks)

pub mark_case-returns-in_ok-add-in-None-clause-marked : goal.mark_case-returns-in_ok-add-in-None-clause-marked
mark_case-returns-in_ok-add-in-None-clause-marked t c = case_marked (names_of c.args.scope.now) c.args.kind c.args.selector.now c.args.items.now c.case_fault.result c.in_ok-chosen-in-None.chosen c.args.marks.now c.read.new.self c.add.new.self c.in_ok-last-in-None.last c.in_ok-arms-in-None.arms c.case_fault.ensures c.in-None.is c.in_ok-chosen-in-None.ensures.arms c.in_ok-read-in-None.ensures c.in_ok-last-in-None.ensures.marked (subst (λ (n : Names). AreArms n (labelled (map item_steps (take c.in_ok-chosen-in-None.chosen.before c.args.items.now))) c.in_ok-last-in-None.last c.in_ok-arms-in-None.arms) c.in_ok-last-in-None.ensures.kept c.in_ok-arms-in-None.ensures.marked) c.in_ok-add-in-None.ensures

pub mark_case-returns-in_ok-add-in-None-clause-kept : goal.mark_case-returns-in_ok-add-in-None-clause-kept
mark_case-returns-in_ok-add-in-None-clause-kept t c = c.in_ok-arms-in-None.ensures.kept ∙ c.in_ok-last-in-None.ensures.kept

pub mark_last-bounds-items-place : goal.mark_last-bounds-items-place
mark_last-bounds-items-place t c = subst (λ (o : Option ℕ). IfSome o (λ k. k < length c.args.items.now)) c.in-Some.is c.requires.within

pub mark_last-mark-requires : goal.mark_last-mark-requires
mark_last-mark-requires t c = (search (rules, the_lemmas), c.requires.sized)

pub mark_last-returns-in_ok-mark-in-Some-clause-marked : goal.mark_last-returns-in_ok-mark-in-Some-clause-marked
mark_last-returns-in_ok-mark-in-Some-clause-marked t c = last_own (names_of c.args.scope.now) c.args.items.now c.args.place c.in-Some.place c.index-items-place.result c.get.result.now c.new-marks.result c.mark.new.marks c.in-Some.is c.index-items-place.is (subst (λ (o : Option ℕ). IfSome o (λ k. k < length c.args.items.now)) c.in-Some.is c.requires.within) c.get.ensures c.new-marks.ensures c.in_ok-mark-in-Some.ensures.marked

pub mark_last-returns-in-None-clause-marked : goal.mark_last-returns-in-None-clause-marked
mark_last-returns-in-None-clause-marked t c = last_none (names_of c.args.scope.now) c.args.items.now c.args.place c.new-marks.result c.in-None.is c.new-marks.ensures

pub mark_arms-loop-place-init : goal.mark_arms-loop-place-init
mark_arms-loop-place-init t c = (arms_start (names_of c.args.scope.now) c.args.items.now c.args.last (record { covered = c.args.last.covered; early = c.args.last.early; writes = c.new.result; is_stopped = c.args.last.is_stopped }) refl refl c.new.ensures.items refl, refl, omega arith)

pub mark_arms-mark-requires : goal.mark_arms-mark-requires
mark_arms-mark-requires t c = (search (rules, the_lemmas), subst AreSized (sym c.loop-place.invariant.1) c.requires.sized)

pub mark_arms-loop-place-preserved-then-is_default : goal.mark_arms-loop-place-preserved-then-is_default
mark_arms-loop-place-preserved-then-is_default t c = (rw add-one (arms_skip (names_of c.args.scope.now) c.args.items.now c.loop-place.place c.index-items-place.result c.args.last c.loop-place.met c.index-items-place.is (omega arith) (sym c.is_default.ensures ∙ c.if-is_default.true) c.loop-place.invariant.0), c.loop-place.invariant.1, omega arith)

pub mark_arms-loop-place-preserved : goal.mark_arms-loop-place-preserved
mark_arms-loop-place-preserved t c = (rw add-one (arms_more (names_of c.args.scope.now) (names_of c.loop-place.scope) c.args.items.now c.loop-place.place c.index-items-place.result c.args.last c.loop-place.met c.meet.new.self c.new-arm.result c.read_all.new.self c.mark.new.marks c.index-items-place.is (omega arith) (sym c.is_default.ensures ∙ c.if-is_default.false) c.loop-place.invariant.1 c.loop-place.invariant.0 c.new-arm.ensures (rw c.as_slice.ensures at c.in_ok-read_all.ensures) (rw c.get.ensures at c.in_ok-mark.ensures.marked) c.in_ok-meet.ensures), c.in_ok-mark.ensures.kept ∙ c.loop-place.invariant.1, omega arith)

pub mark_arms-returns-clause-marked : goal.mark_arms-returns-clause-marked
mark_arms-returns-clause-marked t c = arms_end (names_of c.args.scope.now) c.args.items.now c.loop-place.place c.args.before c.args.last c.loop-place.met c.in_ok-arms.arms (omega (arith, c.loop-place.invariant.2)) c.loop-place.invariant.0 c.in_ok-arms.ensures

pub mark_arms-returns-clause-kept : goal.mark_arms-returns-clause-kept
mark_arms-returns-clause-kept t c = c.loop-place.invariant.1

pub mark_loop-returns-in_default : goal.mark_loop-returns-in_default
mark_loop-returns-in_default t c = record { marked = start_no_name (names_of c.args.scope.now) c.args.marks.now _ c.args.place c.args.start.now c.args.condition.now c.args.step.now (steps_of c.args.body.now) (search (rules, left_lemmas)) c.stop.ensures; kept = refl }

pub mark_loop-returns-in-Err-clause-marked : goal.mark_loop-returns-in-Err-clause-marked
mark_loop-returns-in-Err-clause-marked t c = start_fails (names_of c.args.scope.now) c.args.marks.now _ c.args.place c.args.start.now c.args.condition.now c.args.step.now (steps_of c.args.body.now) c.in-Name.name c.in-Name.is c.get-declared.result _ _ _ _ (c.get-declared.ensures ∙ ap (names_of c.args.scope.now) c.as_str.ensures) (c.in-Some-Signal.is ∙ ap Some (rw c.in-Some-Signal.is at c.in-Some-Signal.field-0-is)) c.in-Err.field-0 c.get-value.result.now c.get-value.ensures c.in-Err.ensures.refused c.stop-in-Err.ensures

pub mark_loop-returns-in-Ok-clause-marked : goal.mark_loop-returns-in-Ok-clause-marked
mark_loop-returns-in-Ok-clause-marked t c = on_ok_weaker c.mark_turns.result (λ h. start_goes (names_of c.args.scope.now) c.args.marks.now _ c.args.place c.args.start.now c.args.condition.now c.args.step.now (steps_of c.args.body.now) c.in-Name.name c.in-Name.is c.get-declared.result _ _ _ _ (c.get-declared.ensures ∙ ap (names_of c.args.scope.now) c.as_str.ensures) (c.in-Some-Signal.is ∙ ap Some (rw c.in-Some-Signal.is at c.in-Some-Signal.field-0-is)) c.get-value.result.now c.in-Ok.first c.get-value.ensures c.in-Ok.ensures.refused c.in-Ok.ensures.value h) c.mark_turns.ensures.marked

pub mark_loop-returns-in-Some-Constant-clause-marked : goal.mark_loop-returns-in-Some-Constant-clause-marked
mark_loop-returns-in-Some-Constant-clause-marked t c = start_constant (names_of c.args.scope.now) c.args.marks.now _ c.args.place c.args.start.now c.args.condition.now c.args.step.now (steps_of c.args.body.now) c.in-Name.name c.in-Name.is c.get-declared.result _ _ _ (c.get-declared.ensures ∙ ap (names_of c.args.scope.now) c.as_str.ensures) (c.in-Some-Constant.is ∙ ap Some (rw c.in-Some-Constant.is at c.in-Some-Constant.field-0-is)) c.stop-in-Some-Constant.ensures

pub mark_loop-returns-in-None-clause-marked : goal.mark_loop-returns-in-None-clause-marked
mark_loop-returns-in-None-clause-marked t c = start_none (names_of c.args.scope.now) c.args.marks.now _ c.args.place c.args.start.now c.args.condition.now c.args.step.now (steps_of c.args.body.now) c.in-Name.name c.in-Name.is c.get-declared.result (c.get-declared.ensures ∙ ap (names_of c.args.scope.now) c.as_str.ensures) c.in-None.is c.stop-in-None.ensures

pub mark_each_turn-loop-turn-init : goal.mark_each_turn-loop-turn-init
mark_each_turn-loop-turn-init t c = (λ names a. λ end x. x, λ d. refl, c.requires.declared, c.requires.sized, c.requires.width)

pub mark_each_turn-mark_turn-requires : goal.mark_each_turn-mark_turn-requires
mark_each_turn-mark_turn-requires t c = (search (rules, the_lemmas), (c.loop-turn.invariant.3, (c.loop-turn.invariant.2, c.loop-turn.invariant.4)))

pub mark_each_turn-returns-in-None-clause-marked : goal.mark_each_turn-returns-in-None-clause-marked
mark_each_turn-returns-in-None-clause-marked t c = λ names a. leads_end (loop_of c.args.header.now) (steps_of c.args.body.now) names (with_name (names_of c.loop-turn.scope) c.args.header.now.name.now.name (Some (Constant c.loop-turn.word 0 c.args.header.now.is_signed))) c.args.first c.loop-turn.word c.loop-turn.turn c.args.marks.now c.loop-turn.marks c.mark_turn.new.marks (omega arith) c.loop-turn.invariant.4 (c.loop-turn.invariant.1 (Some (Constant c.loop-turn.word 0 c.args.header.now.is_signed)) ∙ a (Some (Constant c.loop-turn.word 0 c.args.header.now.is_signed))) (c.loop-turn.invariant.0 names a) (subst (λ (o : Option Word). IsMarkedTurn (loop_of c.args.header.now) (steps_of c.args.body.now) (with_name (names_of c.loop-turn.scope) c.args.header.now.name.now.name (Some (Constant c.loop-turn.word 0 c.args.header.now.is_signed))) o c.loop-turn.marks c.mark_turn.new.marks) c.in-None.is c.in_ok-after.ensures.turn)

pub mark_each_turn-returns-in-None-clause-kept : goal.mark_each_turn-returns-in-None-clause-kept
mark_each_turn-returns-in-None-clause-kept t c = alike_after (names_of c.loop-turn.scope) (names_of c.args.scope.now) (names_of c.mark_turn.new.scope) c.args.header.now.name.now.name (Some (Constant c.loop-turn.word 0 c.args.header.now.is_signed)) c.in_ok-after.ensures.kept c.loop-turn.invariant.1

pub mark_each_turn-returns-in-None-clause-declared : goal.mark_each_turn-returns-in-None-clause-declared
mark_each_turn-returns-in-None-clause-declared t c = some_after (names_of c.loop-turn.scope) (names_of c.mark_turn.new.scope) c.args.header.now.name.now.name (Constant c.loop-turn.word 0 c.args.header.now.is_signed) c.in_ok-after.ensures.kept

pub mark_each_turn-loop-turn-preserved : goal.mark_each_turn-loop-turn-preserved
mark_each_turn-loop-turn-preserved t c =
    let next = subst (λ (o : Option Word). IsMarkedTurn (loop_of c.args.header.now) (steps_of c.args.body.now) (with_name (names_of c.loop-turn.scope) c.args.header.now.name.now.name (Some (Constant c.loop-turn.word 0 c.args.header.now.is_signed))) o c.loop-turn.marks c.mark_turn.new.marks) c.in-Some.is c.in_ok-after.ensures.turn in (
      λ names a. leads_on (loop_of c.args.header.now) (steps_of c.args.body.now) names (with_name (names_of c.loop-turn.scope) c.args.header.now.name.now.name (Some (Constant c.loop-turn.word 0 c.args.header.now.is_signed))) c.args.first c.loop-turn.word c.in-Some.next c.loop-turn.turn c.args.marks.now c.loop-turn.marks c.mark_turn.new.marks (omega arith) c.loop-turn.invariant.4 (c.loop-turn.invariant.1 (Some (Constant c.loop-turn.word 0 c.args.header.now.is_signed)) ∙ a (Some (Constant c.loop-turn.word 0 c.args.header.now.is_signed))) next.1 next.3 (c.loop-turn.invariant.0 names a) next.2,
      alike_after (names_of c.loop-turn.scope) (names_of c.args.scope.now) (names_of c.mark_turn.new.scope) c.args.header.now.name.now.name (Some (Constant c.loop-turn.word 0 c.args.header.now.is_signed)) c.in_ok-after.ensures.kept c.loop-turn.invariant.1,
      some_after (names_of c.loop-turn.scope) (names_of c.mark_turn.new.scope) c.args.header.now.name.now.name (Constant c.loop-turn.word 0 c.args.header.now.is_signed) c.in_ok-after.ensures.kept,
      sized_after (names_of c.loop-turn.scope) (names_of c.mark_turn.new.scope) c.args.header.now.name.now.name c.loop-turn.word c.args.header.now.is_signed c.in_ok-after.ensures.kept c.loop-turn.invariant.3,
      next.0,
    )

pub mark_each_turn-returns-clause-marked : goal.mark_each_turn-returns-clause-marked
mark_each_turn-returns-clause-marked t c = λ names a. leads_none (loop_of c.args.header.now) (steps_of c.args.body.now) names (names_of c.replace.new.self) c.args.first c.loop-turn.word c.loop-turn.turn c.args.marks.now c.loop-turn.marks c.mark_last_test.new.marks (omega arith) c.loop-turn.invariant.4 (((rw c.as_str.ensures at c.replace.ensures.declared) ∙ ap (λ (d : Decl). with_name (names_of c.loop-turn.scope) c.args.header.now.name.now.name (Some d)) c.variable.ensures) ∙ (c.loop-turn.invariant.1 (Some (Constant c.loop-turn.word 0 c.args.header.now.is_signed)) ∙ a (Some (Constant c.loop-turn.word 0 c.args.header.now.is_signed)))) (c.loop-turn.invariant.0 names a) c.mark_last_test.ensures

pub mark_each_turn-returns-clause-kept : goal.mark_each_turn-returns-clause-kept
mark_each_turn-returns-clause-kept t c = alike_after (names_of c.loop-turn.scope) (names_of c.args.scope.now) (names_of c.replace.new.self) c.args.header.now.name.now.name (Some (Constant c.loop-turn.word 0 c.args.header.now.is_signed)) ((rw c.as_str.ensures at c.replace.ensures.declared) ∙ ap (λ (d : Decl). with_name (names_of c.loop-turn.scope) c.args.header.now.name.now.name (Some d)) c.variable.ensures) c.loop-turn.invariant.1

pub mark_each_turn-returns-clause-declared : goal.mark_each_turn-returns-clause-declared
mark_each_turn-returns-clause-declared t c = some_after (names_of c.loop-turn.scope) (names_of c.replace.new.self) c.args.header.now.name.now.name (Constant c.loop-turn.word 0 c.args.header.now.is_signed) ((rw c.as_str.ensures at c.replace.ensures.declared) ∙ ap (λ (d : Decl). with_name (names_of c.loop-turn.scope) c.args.header.now.name.now.name (Some d)) c.variable.ensures)

pub mark_turn-returns-in-Err-clause-turn : goal.mark_turn-returns-in-Err-clause-turn
mark_turn-returns-in-Err-clause-turn t c = subst (λ (n : Names). IsMarkedTurn (loop_of c.args.header.now) (steps_of c.args.body.now) n None c.args.marks.now c.stop.new.self) ((rw c.as_str.ensures at c.replace.ensures.declared) ∙ ap (λ (d : Decl). with_name (names_of c.args.scope.now) c.args.header.now.name.now.name (Some d)) c.variable.ensures) (fails_marked (loop_of c.args.header.now) (steps_of c.args.body.now) (names_of c.replace.new.self) c.in-Err.field-0 c.args.marks.now c.stop.new.self c.in-Err.ensures.refused c.stop.ensures)

pub mark_turn-returns-in-Ok-false-clause-turn : goal.mark_turn-returns-in-Ok-false-clause-turn
mark_turn-returns-in-Ok-false-clause-turn t c = subst (λ (n : Names). IsMarkedTurn (loop_of c.args.header.now) (steps_of c.args.body.now) n None c.args.marks.now c.args.marks.now) ((rw c.as_str.ensures at c.replace.ensures.declared) ∙ ap (λ (d : Decl). with_name (names_of c.args.scope.now) c.args.header.now.name.now.name (Some d)) c.variable.ensures) (ends_marked (loop_of c.args.header.now) (steps_of c.args.body.now) (names_of c.replace.new.self) c.in-Ok-false.field-0 c.args.marks.now c.in-Ok-false.ensures.refused c.in-Ok-false.ensures.holds c.in-Ok-false.field-0-test)

pub mark_turn-returns-in-Err-next_word-clause-turn : goal.mark_turn-returns-in-Err-next_word-clause-turn
mark_turn-returns-in-Err-next_word-clause-turn t c = subst (λ (n : Names). IsMarkedTurn (loop_of c.args.header.now) (steps_of c.args.body.now) n None c.args.marks.now c.stop-in-Err-next_word.new.self) ((rw c.as_str.ensures at c.replace.ensures.declared) ∙ ap (λ (d : Decl). with_name (names_of c.args.scope.now) c.args.header.now.name.now.name (Some d)) c.variable.ensures) (stops_marked (loop_of c.args.header.now) (steps_of c.args.body.now) (names_of c.replace.new.self) c.in-Err-next_word.field-0 c.args.marks.now c.mark.new.marks c.stop-in-Err-next_word.new.self (turn_goes false [] (loop_of c.args.header.now) (steps_of c.args.body.now) (names_of c.replace.new.self) c.in-Ok-true.field-0 c.in-Ok-true.ensures.refused c.in-Ok-true.ensures.holds c.in-Ok-true.field-0-test) c.in_ok-mark-in-Ok-true.ensures.marked (rw c.in_ok-mark-in-Ok-true.ensures.kept at c.in-Err-next_word.ensures.none) c.stop-in-Err-next_word.ensures)

pub mark_turn-returns-in-Ok-clause-turn : goal.mark_turn-returns-in-Ok-clause-turn
mark_turn-returns-in-Ok-clause-turn t c = subst (λ (n : Names). IsMarkedTurn (loop_of c.args.header.now) (steps_of c.args.body.now) n (Some c.in-Ok.next) c.args.marks.now c.mark.new.marks) ((rw c.as_str.ensures at c.replace.ensures.declared) ∙ ap (λ (d : Decl). with_name (names_of c.args.scope.now) c.args.header.now.name.now.name (Some d)) c.variable.ensures) (
    let goes = (turn_goes false [] (loop_of c.args.header.now) (steps_of c.args.body.now) (names_of c.replace.new.self) c.in-Ok-true.field-0 c.in-Ok-true.ensures.refused c.in-Ok-true.ensures.holds c.in-Ok-true.field-0-test) in
    let next = rw c.in_ok-mark-in-Ok-true.ensures.kept at c.in-Ok.ensures.next in
    (next.0, next.1, c.in_ok-mark-in-Ok-true.ensures.marked, λ later. goes later ∙ ap (followed (steps_of c.args.body.now (names_of c.replace.new.self))) (next.2 later)))

pub mark_turn-returns-in-Err-next_word-clause-kept : goal.mark_turn-returns-in-Err-next_word-clause-kept
mark_turn-returns-in-Err-next_word-clause-kept t c = c.in_ok-mark-in-Ok-true.ensures.kept ∙ ((rw c.as_str.ensures at c.replace.ensures.declared) ∙ ap (λ (d : Decl). with_name (names_of c.args.scope.now) c.args.header.now.name.now.name (Some d)) c.variable.ensures)

pub mark_turn-returns-in-Ok-clause-kept : goal.mark_turn-returns-in-Ok-clause-kept
mark_turn-returns-in-Ok-clause-kept t c = c.in_ok-mark-in-Ok-true.ensures.kept ∙ ((rw c.as_str.ensures at c.replace.ensures.declared) ∙ ap (λ (d : Decl). with_name (names_of c.args.scope.now) c.args.header.now.name.now.name (Some d)) c.variable.ensures)
