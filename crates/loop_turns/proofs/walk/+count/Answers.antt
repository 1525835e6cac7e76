use Rattle.loop_turns.proofs.Common.{◌∙◌, ◌≤◌, ℕ, refl, sym, ap, subst, arith, add-one, rules, Some, out-CaseItem, the_lemmas, Decl, Constant, Names, names_of, with_name, AreSized, loop_of}
use Rattle.loop_turns.proofs.Common.{sized_after, some_after, alike_after, put_back, Ends, IsLeft, IsTurn, item_turns, turns_of}
use Rattle.vlog_syntax.specs.declared.left_side.LeftSide.TheViews.{the_lemmas as left_lemmas}
use Rattle.loop_turns.proofs.Turning.{leads_end, leads_none, leads_on, leads_pass, taken_ends, taken_goes, taken_none, taken_passes, turn_comes, turn_ends, turn_fails}
use Rattle.loop_turns.proofs.Walking.{before_end, before_first, before_next, before_passes, both_counted, first_more, item_is, left_as, left_both, left_none, of_block, of_blocking, of_both, of_case}
use Rattle.loop_turns.proofs.Walking.{of_delay, of_event, of_forever, of_loop, of_nonblocking, of_null, of_one, of_repeat, of_task, of_while, start_constant, start_fails, start_goes, start_no_name}
use Rattle.loop_turns.proofs.Walking.{start_none}
use Rattle.loop_turns.proofs.walk.+count.Goals as goal

pub statement_left-returns-in-SeqBlock-clause-left : goal.statement_left-returns-in-SeqBlock-clause-left
statement_left-returns-in-SeqBlock-clause-left t c = left_as _ _ c.args.left c.block_left.result (of_block (names_of c.args.scope.now) c.args.stmt.now c.in-SeqBlock.field-0 c.in-SeqBlock.field-1 c.in-SeqBlock.body c.in-SeqBlock.is) (rw c.as_slice.ensures at c.block_left.ensures.left)

pub statement_left-returns-in-Some-clause-left : goal.statement_left-returns-in-Some-clause-left
statement_left-returns-in-Some-clause-left t c = left_as _ _ c.args.left c.then_left.result (of_both (names_of c.args.scope.now) c.args.stmt.now c.in-Conditional.field-0 c.in-Conditional.field-1 c.in-Conditional.yes c.in-Some.no c.in-Conditional.no c.in-Conditional.is c.in-Some.is) (both_counted c.in-Conditional.yes c.in-Some.no (names_of c.args.scope.now) (names_of c.statement_left-rest.new.scope) c.args.left c.then_left.result c.statement_left-rest.ensures.kept (rw c.get-in-Some.ensures at c.then_left.ensures.left (turns_of c.in-Conditional.yes (names_of c.args.scope.now)) c.args.left (rw c.get.ensures at c.statement_left-rest.ensures.left)))

pub statement_left-then_left-requires : goal.statement_left-then_left-requires
statement_left-then_left-requires t c = (search (rules, the_lemmas), subst AreSized (sym c.statement_left-rest.ensures.kept) c.requires)

pub statement_left-returns-in-Some-clause-kept : goal.statement_left-returns-in-Some-clause-kept
statement_left-returns-in-Some-clause-kept t c = c.then_left.ensures.kept ∙ c.statement_left-rest.ensures.kept

pub then_left-returns-in-None-clause-left : goal.then_left-returns-in-None-clause-left
then_left-returns-in-None-clause-left t c = λ before left h. first_more before (turns_of c.args.stmt.now (names_of c.args.scope.now)) left (subst (IsLeft before left) c.in-None.is h)

pub then_left-returns-in-Some-clause-left : goal.then_left-returns-in-Some-clause-left
then_left-returns-in-Some-clause-left t c = λ before left h. left_both before (turns_of c.args.stmt.now (names_of c.args.scope.now)) left c.in-Some.rest c.statement_left.result (subst (IsLeft before left) c.in-Some.is h) c.statement_left.ensures.left

pub statement_left-returns-in-None-clause-left : goal.statement_left-returns-in-None-clause-left
statement_left-returns-in-None-clause-left t c = left_as _ _ c.args.left c.statement_left-rest.result (of_one (names_of c.args.scope.now) c.args.stmt.now c.in-Conditional.field-0 c.in-Conditional.field-1 c.in-Conditional.yes c.in-Conditional.no c.in-Conditional.is c.in-None.is) (rw c.get.ensures at c.statement_left-rest.ensures.left)

pub statement_left-returns-in-Case-clause-left : goal.statement_left-returns-in-Case-clause-left
statement_left-returns-in-Case-clause-left t c = left_as _ _ c.args.left c.items_left.result (of_case (names_of c.args.scope.now) c.args.stmt.now c.in-Case.field-0 c.in-Case.field-1 c.in-Case.field-2 c.in-Case.items c.in-Case.is) (rw c.as_slice-in-Case.ensures at c.items_left.ensures.left)

pub statement_left-returns-in-For-clause-left : goal.statement_left-returns-in-For-clause-left
statement_left-returns-in-For-clause-left t c = left_as _ _ c.args.left c.loop_left.result (of_loop (names_of c.args.scope.now) c.args.stmt.now c.in-For.place c.in-For.start c.in-For.condition c.in-For.step c.in-For.body c.in-For.is) (rw (c.get-in-For.ensures, c.get-in-For-2.ensures) at c.loop_left.ensures.left)

pub statement_left-returns-in-Null-clause-left : goal.statement_left-returns-in-Null-clause-left
statement_left-returns-in-Null-clause-left t c = left_none _ c.args.left (of_null (names_of c.args.scope.now) c.args.stmt.now _ c.in-Null.is)

pub statement_left-returns-in-While-clause-left : goal.statement_left-returns-in-While-clause-left
statement_left-returns-in-While-clause-left t c = left_none _ c.args.left (of_while (names_of c.args.scope.now) c.args.stmt.now _ _ _ c.in-While.is)

pub statement_left-returns-in-Repeat-clause-left : goal.statement_left-returns-in-Repeat-clause-left
statement_left-returns-in-Repeat-clause-left t c = left_none _ c.args.left (of_repeat (names_of c.args.scope.now) c.args.stmt.now _ _ _ c.in-Repeat.is)

pub statement_left-returns-in-Forever-clause-left : goal.statement_left-returns-in-Forever-clause-left
statement_left-returns-in-Forever-clause-left t c = left_none _ c.args.left (of_forever (names_of c.args.scope.now) c.args.stmt.now _ _ c.in-Forever.is)

pub statement_left-returns-in-EventControl-clause-left : goal.statement_left-returns-in-EventControl-clause-left
statement_left-returns-in-EventControl-clause-left t c = left_none _ c.args.left (of_event (names_of c.args.scope.now) c.args.stmt.now _ _ _ c.in-EventControl.is)

pub statement_left-returns-in-DelayControl-clause-left : goal.statement_left-returns-in-DelayControl-clause-left
statement_left-returns-in-DelayControl-clause-left t c = left_none _ c.args.left (of_delay (names_of c.args.scope.now) c.args.stmt.now _ _ _ c.in-DelayControl.is)

pub statement_left-returns-in-SystemTaskEnable-clause-left : goal.statement_left-returns-in-SystemTaskEnable-clause-left
statement_left-returns-in-SystemTaskEnable-clause-left t c = left_none _ c.args.left (of_task (names_of c.args.scope.now) c.args.stmt.now _ _ c.in-SystemTaskEnable.is)

pub statement_left-returns-in-BlockingAssignment-clause-left : goal.statement_left-returns-in-BlockingAssignment-clause-left
statement_left-returns-in-BlockingAssignment-clause-left t c = left_none _ c.args.left (of_blocking (names_of c.args.scope.now) c.args.stmt.now _ c.in-BlockingAssignment.is)

pub statement_left-returns-in-NonblockingAssignment-clause-left : goal.statement_left-returns-in-NonblockingAssignment-clause-left
statement_left-returns-in-NonblockingAssignment-clause-left t c = left_none _ c.args.left (of_nonblocking (names_of c.args.scope.now) c.args.stmt.now _ c.in-NonblockingAssignment.is)

pub block_left-loop-stmt-init : goal.block_left-loop-stmt-init
block_left-loop-stmt-init t c = (before_first turns_of (names_of c.args.scope.now) c.args.body.now c.args.left, refl)

pub block_left-statement_left-requires : goal.block_left-statement_left-requires
block_left-statement_left-requires t c = (search (rules, the_lemmas), subst AreSized (sym c.loop-stmt.invariant.1) c.requires)

pub block_left-returns-in-None-clause-left : goal.block_left-returns-in-None-clause-left
block_left-returns-in-None-clause-left t c = before_passes turns_of (names_of c.args.scope.now) c.args.body.now c.loop-stmt.stmt-index c.stmt-item.result (turns_of c.stmt-item.result (names_of c.loop-stmt.scope)) c.args.left c.loop-stmt.rest c.stmt-item.is (omega arith) (ap (turns_of c.stmt-item.result) (sym c.loop-stmt.invariant.1)) c.loop-stmt.invariant.0 c.in-None.ensures.left

pub block_left-returns-in-None-clause-kept : goal.block_left-returns-in-None-clause-kept
block_left-returns-in-None-clause-kept t c = c.in-None.ensures.kept ∙ c.loop-stmt.invariant.1

pub block_left-loop-stmt-preserved : goal.block_left-loop-stmt-preserved
block_left-loop-stmt-preserved t c = (rw add-one (before_next turns_of (names_of c.args.scope.now) c.args.body.now c.loop-stmt.stmt-index c.stmt-item.result (turns_of c.stmt-item.result (names_of c.loop-stmt.scope)) c.args.left c.loop-stmt.rest c.in-Some.after c.stmt-item.is (omega arith) (ap (turns_of c.stmt-item.result) (sym c.loop-stmt.invariant.1)) c.loop-stmt.invariant.0 c.in-Some.ensures.left), c.in-Some.ensures.kept ∙ c.loop-stmt.invariant.1)

pub block_left-returns-clause-left : goal.block_left-returns-clause-left
block_left-returns-clause-left t c = before_end turns_of (names_of c.args.scope.now) c.args.body.now c.loop-stmt.stmt-index c.args.left c.loop-stmt.rest (omega arith) c.loop-stmt.invariant.0

pub items_left-loop-item-init : goal.items_left-loop-item-init
items_left-loop-item-init t c = (before_first item_turns (names_of c.args.scope.now) c.args.items.now c.args.left, refl)

pub items_left-statement_left-requires : goal.items_left-statement_left-requires
items_left-statement_left-requires t c = (search (rules, the_lemmas), subst AreSized (sym c.loop-item.invariant.1) c.requires)

pub items_left-returns-in-None-clause-left : goal.items_left-returns-in-None-clause-left
items_left-returns-in-None-clause-left t c = before_passes item_turns (names_of c.args.scope.now) c.args.items.now c.loop-item.item-index c.item-item.result (turns_of (out-CaseItem c.item-item.result).body (names_of c.loop-item.scope)) c.args.left c.loop-item.rest c.item-item.is (omega arith) (item_is c.item-item.result (names_of c.args.scope.now) ∙ ap (turns_of (out-CaseItem c.item-item.result).body) (sym c.loop-item.invariant.1)) c.loop-item.invariant.0 (rw c.get.ensures at c.in-None.ensures.left)

pub items_left-returns-in-None-clause-kept : goal.items_left-returns-in-None-clause-kept
items_left-returns-in-None-clause-kept t c = c.in-None.ensures.kept ∙ c.loop-item.invariant.1

pub items_left-loop-item-preserved : goal.items_left-loop-item-preserved
items_left-loop-item-preserved t c = (rw add-one (before_next item_turns (names_of c.args.scope.now) c.args.items.now c.loop-item.item-index c.item-item.result (turns_of (out-CaseItem c.item-item.result).body (names_of c.loop-item.scope)) c.args.left c.loop-item.rest c.in-Some.after c.item-item.is (omega arith) (item_is c.item-item.result (names_of c.args.scope.now) ∙ ap (turns_of (out-CaseItem c.item-item.result).body) (sym c.loop-item.invariant.1)) c.loop-item.invariant.0 (rw c.get.ensures at c.in-Some.ensures.left)), c.in-Some.ensures.kept ∙ c.loop-item.invariant.1)

pub items_left-returns-clause-left : goal.items_left-returns-clause-left
items_left-returns-clause-left t c = before_end item_turns (names_of c.args.scope.now) c.args.items.now c.loop-item.item-index c.args.left c.loop-item.rest (omega arith) c.loop-item.invariant.0

pub loop_left-returns-in_default : goal.loop_left-returns-in_default
loop_left-returns-in_default t c = record { left = left_none _ c.args.left (start_no_name (names_of c.args.scope.now) c.args.place c.args.start.now c.args.condition.now c.args.step.now (turns_of c.args.body.now) (search (rules, left_lemmas))); kept = refl }

pub loop_left-returns-in-Err-clause-left : goal.loop_left-returns-in-Err-clause-left
loop_left-returns-in-Err-clause-left t c = left_none _ c.args.left (start_fails (names_of c.args.scope.now) c.args.place c.args.start.now c.args.condition.now c.args.step.now (turns_of c.args.body.now) c.in-Name.name c.in-Name.is c.get-declared.result (c.get-declared.ensures ∙ ap (names_of c.args.scope.now) c.as_str.ensures) _ _ _ _ (c.in-Some-Signal.is ∙ ap Some (rw c.in-Some-Signal.is at c.in-Some-Signal.field-0-is)) c.in-Err.field-0 c.get-value.result.now c.get-value.ensures c.in-Err.ensures.refused)

pub loop_left-returns-in-Ok-clause-left : goal.loop_left-returns-in-Ok-clause-left
loop_left-returns-in-Ok-clause-left t c = left_as _ _ c.args.left c.turns_left.result (start_goes (names_of c.args.scope.now) c.args.place c.args.start.now c.args.condition.now c.args.step.now (turns_of c.args.body.now) c.in-Name.name c.in-Name.is c.get-declared.result (c.get-declared.ensures ∙ ap (names_of c.args.scope.now) c.as_str.ensures) _ _ _ _ (c.in-Some-Signal.is ∙ ap Some (rw c.in-Some-Signal.is at c.in-Some-Signal.field-0-is)) c.get-value.result.now c.in-Ok.first c.get-value.ensures c.in-Ok.ensures.refused c.in-Ok.ensures.value) c.turns_left.ensures.left

pub loop_left-returns-in-Some-Constant-clause-left : goal.loop_left-returns-in-Some-Constant-clause-left
loop_left-returns-in-Some-Constant-clause-left t c = left_none _ c.args.left (start_constant (names_of c.args.scope.now) c.args.place c.args.start.now c.args.condition.now c.args.step.now (turns_of c.args.body.now) c.in-Name.name c.in-Name.is c.get-declared.result (c.get-declared.ensures ∙ ap (names_of c.args.scope.now) c.as_str.ensures) _ _ _ (c.in-Some-Constant.is ∙ ap Some (rw c.in-Some-Constant.is at c.in-Some-Constant.field-0-is)))

pub loop_left-returns-in-None-clause-left : goal.loop_left-returns-in-None-clause-left
loop_left-returns-in-None-clause-left t c = left_none _ c.args.left (start_none (names_of c.args.scope.now) c.args.place c.args.start.now c.args.condition.now c.args.step.now (turns_of c.args.body.now) c.in-Name.name c.in-Name.is c.get-declared.result (c.get-declared.ensures ∙ ap (names_of c.args.scope.now) c.as_str.ensures) c.in-None.is)

pub turns_left-each_turn_left-rest-requires : goal.turns_left-each_turn_left-rest-requires
turns_left-each_turn_left-rest-requires t c = (search (rules, the_lemmas), (sized_after (names_of c.args.scope.now) (names_of c.replace-declared.new.self) c.args.header.now.name.now.name c.args.first c.args.header.now.is_signed ((rw c.as_str-name.ensures at c.replace-declared.ensures.declared) ∙ ap (λ (d : Decl). with_name (names_of c.args.scope.now) c.args.header.now.name.now.name (Some d)) c.variable.ensures) c.requires.sized, (some_after (names_of c.args.scope.now) (names_of c.replace-declared.new.self) c.args.header.now.name.now.name (Constant c.args.first 0 c.args.header.now.is_signed) ((rw c.as_str-name.ensures at c.replace-declared.ensures.declared) ∙ ap (λ (d : Decl). with_name (names_of c.args.scope.now) c.args.header.now.name.now.name (Some d)) c.variable.ensures), c.requires.width)))

pub turns_left-returns-clause-left : goal.turns_left-returns-clause-left
turns_left-returns-clause-left t c = c.each_turn_left-rest.ensures.left (names_of c.args.scope.now) (alike_after (names_of c.args.scope.now) (names_of c.args.scope.now) (names_of c.replace-declared.new.self) c.args.header.now.name.now.name (Some (Constant c.args.first 0 c.args.header.now.is_signed)) ((rw c.as_str-name.ensures at c.replace-declared.ensures.declared) ∙ ap (λ (d : Decl). with_name (names_of c.args.scope.now) c.args.header.now.name.now.name (Some d)) c.variable.ensures) (λ d. refl))

pub turns_left-returns-clause-kept : goal.turns_left-returns-clause-kept
turns_left-returns-clause-kept t c = put_back (names_of c.args.scope.now) (names_of c.replace-declared.new.self) (names_of c.each_turn_left-rest.new.scope) (names_of c.replace.new.self) c.args.header.now.name.now.name (Some (Constant c.args.first 0 c.args.header.now.is_signed)) c.replace-declared.result ((rw c.as_str-name.ensures at c.replace-declared.ensures.declared) ∙ ap (λ (d : Decl). with_name (names_of c.args.scope.now) c.args.header.now.name.now.name (Some d)) c.variable.ensures) c.each_turn_left-rest.ensures.kept (rw c.as_str-name.ensures at c.replace.ensures.declared) (rw c.as_str-name.ensures at c.replace-declared.ensures.replaced)

pub each_turn_left-loop-turn-init : goal.each_turn_left-loop-turn-init
each_turn_left-loop-turn-init t c = (λ names a. refl, λ d. refl, c.requires.declared, c.requires.sized, c.requires.width)

pub each_turn_left-turn_left-requires : goal.each_turn_left-turn_left-requires
each_turn_left-turn_left-requires t c = (search (rules, the_lemmas), (c.loop-turn.invariant.3, (c.loop-turn.invariant.2, c.loop-turn.invariant.4)))

pub each_turn_left-returns-in-Passes-clause-left : goal.each_turn_left-returns-in-Passes-clause-left
each_turn_left-returns-in-Passes-clause-left t c = λ names a. leads_pass (loop_of c.args.header.now) (turns_of c.args.body.now) names (with_name (names_of c.loop-turn.scope) c.args.header.now.name.now.name (Some (Constant c.loop-turn.word 0 c.args.header.now.is_signed))) c.args.first c.loop-turn.word c.loop-turn.turn c.args.left c.loop-turn.rest (omega arith) c.loop-turn.invariant.4 (c.loop-turn.invariant.1 (Some (Constant c.loop-turn.word 0 c.args.header.now.is_signed)) ∙ a (Some (Constant c.loop-turn.word 0 c.args.header.now.is_signed))) (c.loop-turn.invariant.0 names a) c.in-Passes.ensures.turn

pub each_turn_left-returns-in-Ends-clause-left : goal.each_turn_left-returns-in-Ends-clause-left
each_turn_left-returns-in-Ends-clause-left t c = λ names a. leads_end (loop_of c.args.header.now) (turns_of c.args.body.now) names (with_name (names_of c.loop-turn.scope) c.args.header.now.name.now.name (Some (Constant c.loop-turn.word 0 c.args.header.now.is_signed))) c.args.first c.loop-turn.word c.loop-turn.turn c.args.left c.loop-turn.rest c.in-Ends.last (omega arith) c.loop-turn.invariant.4 (c.loop-turn.invariant.1 (Some (Constant c.loop-turn.word 0 c.args.header.now.is_signed)) ∙ a (Some (Constant c.loop-turn.word 0 c.args.header.now.is_signed))) (c.loop-turn.invariant.0 names a) c.in-Ends.ensures.turn

pub each_turn_left-returns-in-Passes-clause-kept : goal.each_turn_left-returns-in-Passes-clause-kept
each_turn_left-returns-in-Passes-clause-kept t c = alike_after (names_of c.loop-turn.scope) (names_of c.args.scope.now) (names_of c.turn_left.new.scope) c.args.header.now.name.now.name (Some (Constant c.loop-turn.word 0 c.args.header.now.is_signed)) c.in-Passes.ensures.kept c.loop-turn.invariant.1

pub each_turn_left-returns-in-Passes-clause-declared : goal.each_turn_left-returns-in-Passes-clause-declared
each_turn_left-returns-in-Passes-clause-declared t c = some_after (names_of c.loop-turn.scope) (names_of c.turn_left.new.scope) c.args.header.now.name.now.name (Constant c.loop-turn.word 0 c.args.header.now.is_signed) c.in-Passes.ensures.kept

pub each_turn_left-returns-in-Ends-clause-kept : goal.each_turn_left-returns-in-Ends-clause-kept
each_turn_left-returns-in-Ends-clause-kept t c = alike_after (names_of c.loop-turn.scope) (names_of c.args.scope.now) (names_of c.turn_left.new.scope) c.args.header.now.name.now.name (Some (Constant c.loop-turn.word 0 c.args.header.now.is_signed)) c.in-Ends.ensures.kept c.loop-turn.invariant.1

pub each_turn_left-returns-in-Ends-clause-declared : goal.each_turn_left-returns-in-Ends-clause-declared
each_turn_left-returns-in-Ends-clause-declared t c = some_after (names_of c.loop-turn.scope) (names_of c.turn_left.new.scope) c.args.header.now.name.now.name (Constant c.loop-turn.word 0 c.args.header.now.is_signed) c.in-Ends.ensures.kept

pub each_turn_left-loop-turn-preserved : goal.each_turn_left-loop-turn-preserved
each_turn_left-loop-turn-preserved t c = (λ names a. leads_on (loop_of c.args.header.now) (turns_of c.args.body.now) names (with_name (names_of c.loop-turn.scope) c.args.header.now.name.now.name (Some (Constant c.loop-turn.word 0 c.args.header.now.is_signed))) c.args.first c.loop-turn.word c.in-GoesOn.next c.loop-turn.turn c.args.left c.loop-turn.rest c.in-GoesOn.after (omega arith) c.loop-turn.invariant.4 (c.loop-turn.invariant.1 (Some (Constant c.loop-turn.word 0 c.args.header.now.is_signed)) ∙ a (Some (Constant c.loop-turn.word 0 c.args.header.now.is_signed))) (c.loop-turn.invariant.0 names a) c.in-GoesOn.ensures.turn, alike_after (names_of c.loop-turn.scope) (names_of c.args.scope.now) (names_of c.turn_left.new.scope) c.args.header.now.name.now.name (Some (Constant c.loop-turn.word 0 c.args.header.now.is_signed)) c.in-GoesOn.ensures.kept c.loop-turn.invariant.1, some_after (names_of c.loop-turn.scope) (names_of c.turn_left.new.scope) c.args.header.now.name.now.name (Constant c.loop-turn.word 0 c.args.header.now.is_signed) c.in-GoesOn.ensures.kept, sized_after (names_of c.loop-turn.scope) (names_of c.turn_left.new.scope) c.args.header.now.name.now.name c.loop-turn.word c.args.header.now.is_signed c.in-GoesOn.ensures.kept c.loop-turn.invariant.3, c.in-GoesOn.ensures.turn.0)

pub each_turn_left-returns-clause-left : goal.each_turn_left-returns-clause-left
each_turn_left-returns-clause-left t c = λ names a. leads_none (loop_of c.args.header.now) (turns_of c.args.body.now) names c.args.first c.loop-turn.word c.loop-turn.turn c.args.left c.loop-turn.rest (omega arith) (c.loop-turn.invariant.0 names a)

pub turn_left-returns-in-Err-clause-turn : goal.turn_left-returns-in-Err-clause-turn
turn_left-returns-in-Err-clause-turn t c = subst (λ (n : Names). IsTurn (loop_of c.args.header.now) (turns_of c.args.body.now) n c.args.left (Ends c.args.left)) ((rw c.as_str.ensures at c.replace.ensures.declared) ∙ ap (λ (d : Decl). with_name (names_of c.args.scope.now) c.args.header.now.name.now.name (Some d)) c.variable.ensures) (turn_fails (loop_of c.args.header.now) (turns_of c.args.body.now) (names_of c.replace.new.self) c.in-Err.field-0 c.args.left c.in-Err.ensures.refused)

pub turn_left-returns-in-Ok-false-clause-turn : goal.turn_left-returns-in-Ok-false-clause-turn
turn_left-returns-in-Ok-false-clause-turn t c = subst (λ (n : Names). IsTurn (loop_of c.args.header.now) (turns_of c.args.body.now) n c.args.left (Ends c.args.left)) ((rw c.as_str.ensures at c.replace.ensures.declared) ∙ ap (λ (d : Decl). with_name (names_of c.args.scope.now) c.args.header.now.name.now.name (Some d)) c.variable.ensures) (turn_ends (loop_of c.args.header.now) (turns_of c.args.body.now) (names_of c.replace.new.self) c.in-Ok-false.field-0 c.args.left c.in-Ok-false.ensures.refused c.in-Ok-false.ensures.holds c.in-Ok-false.field-0-test)

pub turn_left-returns-in-Ok-true-clause-turn : goal.turn_left-returns-in-Ok-true-clause-turn
turn_left-returns-in-Ok-true-clause-turn t c = subst (λ (n : Names). IsTurn (loop_of c.args.header.now) (turns_of c.args.body.now) n c.args.left c.turn_taken.result) ((rw c.as_str.ensures at c.replace.ensures.declared) ∙ ap (λ (d : Decl). with_name (names_of c.args.scope.now) c.args.header.now.name.now.name (Some d)) c.variable.ensures) (turn_comes (loop_of c.args.header.now) (turns_of c.args.body.now) (names_of c.replace.new.self) c.turn_taken.result c.in-Ok-true.field-0 c.args.left c.in-Ok-true.ensures.refused c.in-Ok-true.ensures.holds c.in-Ok-true.field-0-test c.turn_taken.ensures.turn)

pub turn_left-turn_taken-requires : goal.turn_left-turn_taken-requires
turn_left-turn_taken-requires t c = (search (rules, the_lemmas), (sized_after (names_of c.args.scope.now) (names_of c.replace.new.self) c.args.header.now.name.now.name c.args.word c.args.header.now.is_signed ((rw c.as_str.ensures at c.replace.ensures.declared) ∙ ap (λ (d : Decl). with_name (names_of c.args.scope.now) c.args.header.now.name.now.name (Some d)) c.variable.ensures) c.requires.sized, (subst (λ (w : ℕ). 1 ≤ w) c.requires.width c.args.word.some, subst (λ (w : ℕ). w ≤ 128) c.requires.width c.args.word.narrow)))

pub turn_left-returns-in-Ok-true-clause-kept : goal.turn_left-returns-in-Ok-true-clause-kept
turn_left-returns-in-Ok-true-clause-kept t c = c.turn_taken.ensures.kept ∙ ((rw c.as_str.ensures at c.replace.ensures.declared) ∙ ap (λ (d : Decl). with_name (names_of c.args.scope.now) c.args.header.now.name.now.name (Some d)) c.variable.ensures)

pub turn_taken-returns-in-None-clause-turn : goal.turn_taken-returns-in-None-clause-turn
turn_taken-returns-in-None-clause-turn t c = taken_passes (loop_of c.args.header.now) (turns_of c.args.body.now) (names_of c.args.scope.now) c.args.left c.in-None.ensures.left

pub turn_taken-returns-in-Err-clause-turn : goal.turn_taken-returns-in-Err-clause-turn
turn_taken-returns-in-Err-clause-turn t c = taken_ends (loop_of c.args.header.now) (turns_of c.args.body.now) (names_of c.args.scope.now) c.args.left c.in-Some.rest c.in-Err.field-0 (omega arith) c.in-Some.ensures.left (rw c.in-Some.ensures.kept at c.in-Err.ensures.none)

pub turn_taken-returns-in-Ok-clause-turn : goal.turn_taken-returns-in-Ok-clause-turn
turn_taken-returns-in-Ok-clause-turn t c = taken_goes (loop_of c.args.header.now) (turns_of c.args.body.now) (names_of c.args.scope.now) c.args.left c.in-Some.rest c.in-Ok.next (omega arith) c.in-Some.ensures.left (rw c.in-Some.ensures.kept at c.in-Ok.ensures.next)

pub turn_taken-returns-then-left-eq0-clause-turn : goal.turn_taken-returns-then-left-eq0-clause-turn
turn_taken-returns-then-left-eq0-clause-turn t c = taken_none (loop_of c.args.header.now) (turns_of c.args.body.now) (names_of c.args.scope.now) c.args.left (omega arith)
