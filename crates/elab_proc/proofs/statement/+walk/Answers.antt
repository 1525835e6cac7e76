use Rattle.elab_proc.proofs.Common.{◌∙◌, ◌∷◌, [], map, refl, sym, ap, subst, arith, add-one, rules, None, Some, the_lemmas, Decl, Constant, Names, names_of, with_name, these_nil, least_none}
use Rattle.elab_proc.proofs.Common.{item_steps, followed, default_of, steps_of, AreSized, case_faults, own_faults, labels_in, step_refusals, loop_of, IsTurn, flat_map, Expr, least}
use Rattle.std.proofs.lemmas.Result.{IfOk-weaker}
use Rattle.elab_proc.specs.declared.turns.Turn.TheVariants.{Ends, GoesOn}
use Rattle.elab_proc.proofs.StepLemmas.{splits_start, splits_on, splits_end, block_more, bodies_more, case_some, case_none, default_labelled}
use Rattle.elab_proc.proofs.TurnLemmas.{sized_after, some_after, alike_after, put_back, left_more, left_ends, left_none, turn_fails, turn_ends, turn_goes, turn_stops}
use Rattle.elab_proc.proofs.WalkLemmas.{out_of_box, loop_fails, loop_goes, block_first, case_first, loop_first, both_first, only_first, items_start, items_skip, items_more, items_last, items_none}
use Rattle.elab_proc.proofs.WalkLemmas.{default_first, default_none}
use Rattle.elab_proc.proofs.statement.+walk.Goals as goal

pub block_refusal-statement_refusal-requires : goal.block_refusal-statement_refusal-requires
block_refusal-statement_refusal-requires t c = (search (rules, the_lemmas), subst AreSized (sym c.loop-stmt.invariant.1) c.requires)

pub block_refusal-loop-stmt-preserved : goal.block_refusal-loop-stmt-preserved
block_refusal-loop-stmt-preserved t c = (rw add-one (block_more c.args.walk.now.is_combinational c.args.walk.now.written.now (names_of c.args.scope.now) (names_of c.loop-stmt.scope) c.args.body.now c.loop-stmt.stmt-index c.stmt-item.result c.loop-stmt.found c.in_ok-statement_refusal.field-0 c.earlier-found.result c.stmt-item.is (omega arith) c.loop-stmt.invariant.1 c.loop-stmt.invariant.0 c.in_ok-statement_refusal.ensures.first c.earlier-found.ensures), c.in_ok-statement_refusal.ensures.kept ∙ c.loop-stmt.invariant.1)

pub case_refusal-case_size-size-requires : goal.case_refusal-case_size-size-requires
case_refusal-case_size-size-requires t c = these_nil _ _ (least_none (case_faults (names_of c.args.scope.now) (c.args.selector.now ∷ flat_map labels_in c.args.items.now)) (sym c.case_fault.ensures ∙ c.in-None.is))

pub case_refusal-items_refusal-requires : goal.case_refusal-items_refusal-requires
case_refusal-items_refusal-requires t c = (search (rules, the_lemmas), (c.case_size-size.ensures.sized.narrow, c.requires))

pub case_refusal-returns-in_ok-found-in-Some-clause-first : goal.case_refusal-returns-in_ok-found-in-Some-clause-first
case_refusal-returns-in_ok-found-in-Some-clause-first t c = case_some c.args.walk.now.is_combinational c.args.walk.now.written.now (names_of c.args.scope.now) c.args.kind c.args.selector.now c.args.items.now c.case_fault.result c.in-Some.fault c.in_ok-found-in-Some.found c.earlier.result c.case_fault.ensures c.in-Some.is c.in_ok-found-in-Some.ensures.first c.earlier.ensures

pub bodies_refusal-statement_refusal-requires : goal.bodies_refusal-statement_refusal-requires
bodies_refusal-statement_refusal-requires t c = (search (rules, the_lemmas), subst AreSized (sym c.loop-item.invariant.1) c.requires)

pub bodies_refusal-loop-item-preserved : goal.bodies_refusal-loop-item-preserved
bodies_refusal-loop-item-preserved t c = (rw add-one (bodies_more c.args.walk.now.is_combinational c.args.walk.now.written.now (names_of c.args.scope.now) (names_of c.loop-item.scope) c.args.items.now c.loop-item.item-index c.item-item.result c.loop-item.found c.in_ok-statement_refusal.field-0 c.earlier-found.result c.item-item.is (omega arith) c.loop-item.invariant.1 c.loop-item.invariant.0 (rw c.get.ensures at c.in_ok-statement_refusal.ensures.first) c.earlier-found.ensures), c.in_ok-statement_refusal.ensures.kept ∙ c.loop-item.invariant.1)

pub case_refusal-returns-in-None-clause-first : goal.case_refusal-returns-in-None-clause-first
case_refusal-returns-in-None-clause-first t c = IfOk-weaker c.items_refusal.result _ _ (λ o h. case_none c.args.walk.now.is_combinational c.args.walk.now.written.now (names_of c.args.scope.now) c.args.kind c.args.selector.now c.args.items.now o c.case_fault.result c.case_size-size.result c.case_fault.ensures c.in-None.is c.case_size-size.ensures.size h) c.items_refusal.ensures.first

pub items_refusal-loop-item-init : goal.items_refusal-loop-item-init
items_refusal-loop-item-init t c = (λ s k v n. items_start c.args.walk.now.is_combinational c.args.walk.now.written.now s c.args.items.now (default_of (map item_steps c.args.items.now)) [], refl)

pub items_refusal-statement_refusal-requires : goal.items_refusal-statement_refusal-requires
items_refusal-statement_refusal-requires t c = (search (rules, the_lemmas), subst AreSized (sym c.loop-item.invariant.1) c.requires.sized)

pub items_refusal-returns-then-always-clause-first : goal.items_refusal-returns-then-always-clause-first
items_refusal-returns-then-always-clause-first t c = λ s k v n. items_last c.args.walk.now.is_combinational c.args.walk.now.written.now s c.args.items.now (default_of (map item_steps c.args.items.now)) _ c.loop-item.item-index c.item-item.result (names_of c.loop-item.scope) c.loop-item.found c.in_ok-statement_refusal.field-0 c.earlier-found.result c.item-item.is (omega arith) (sym c.is_default.ensures ∙ c.if-is_default.false) (sym ((rw c.as_slice.ensures at c.always.ensures) s k v) ∙ c.if-always.true) (c.loop-item.invariant.1 ∙ sym n) (c.loop-item.invariant.0 s k v n) (rw c.get.ensures at c.in_ok-statement_refusal.ensures.first) c.earlier-found.ensures

pub items_refusal-loop-item-preserved-then-is_default : goal.items_refusal-loop-item-preserved-then-is_default
items_refusal-loop-item-preserved-then-is_default t c = (λ s k v n. rw add-one (items_skip c.args.walk.now.is_combinational c.args.walk.now.written.now s c.args.items.now (default_of (map item_steps c.args.items.now)) _ c.loop-item.item-index c.item-item.result c.loop-item.found c.item-item.is (omega arith) (sym c.is_default.ensures ∙ c.if-is_default.true) (c.loop-item.invariant.0 s k v n)), c.loop-item.invariant.1)

pub items_refusal-loop-item-preserved : goal.items_refusal-loop-item-preserved
items_refusal-loop-item-preserved t c = (λ s k v n. rw add-one (items_more c.args.walk.now.is_combinational c.args.walk.now.written.now s c.args.items.now (default_of (map item_steps c.args.items.now)) _ c.loop-item.item-index c.item-item.result (names_of c.loop-item.scope) c.loop-item.found c.in_ok-statement_refusal.field-0 c.earlier-found.result c.item-item.is (omega arith) (sym c.is_default.ensures ∙ c.if-is_default.false) (sym ((rw c.as_slice.ensures at c.always.ensures) s k v) ∙ c.if-always.false) (c.loop-item.invariant.1 ∙ sym n) (c.loop-item.invariant.0 s k v n) (rw c.get.ensures at c.in_ok-statement_refusal.ensures.first) c.earlier-found.ensures), c.in_ok-statement_refusal.ensures.kept ∙ c.loop-item.invariant.1)

pub items_refusal-default_refusal-requires : goal.items_refusal-default_refusal-requires
items_refusal-default_refusal-requires t c = (search (rules, the_lemmas), subst AreSized (sym c.loop-item.invariant.1) c.requires.sized)

pub items_refusal-returns-clause-first : goal.items_refusal-returns-clause-first
items_refusal-returns-clause-first t c = λ s k v n. items_none c.args.walk.now.is_combinational c.args.walk.now.written.now s c.args.items.now (default_of (map item_steps c.args.items.now)) _ c.loop-item.item-index (names_of c.loop-item.scope) c.loop-item.found c.in_ok-default.default c.earlier.result (omega arith) (c.loop-item.invariant.1 ∙ sym n) (c.loop-item.invariant.0 s k v n) c.in_ok-default.ensures.first c.earlier.ensures

pub default_refusal-statement_refusal-requires : goal.default_refusal-statement_refusal-requires
default_refusal-statement_refusal-requires t c = (search (rules, the_lemmas), subst AreSized (sym c.loop-item.invariant.1) c.requires)

pub default_refusal-returns-then-is_default-clause-first : goal.default_refusal-returns-then-is_default-clause-first
default_refusal-returns-then-is_default-clause-first t c = IfOk-weaker c.statement_refusal.result _ _ (λ o h. default_first c.args.walk.now.is_combinational c.args.walk.now.written.now (names_of c.args.scope.now) c.args.items.now c.loop-item.item-index c.item-item.result (names_of c.loop-item.scope) o c.item-item.is (omega arith) (sym c.is_default.ensures ∙ c.if-is_default.true) c.loop-item.invariant.0 c.loop-item.invariant.1 (rw c.get.ensures at h)) c.statement_refusal.ensures.first

pub default_refusal-loop-item-preserved : goal.default_refusal-loop-item-preserved
default_refusal-loop-item-preserved t c = (rw add-one (c.loop-item.invariant.0 ∙ default_labelled c.args.walk.now.is_combinational c.args.walk.now.written.now c.args.items.now c.loop-item.item-index c.item-item.result c.item-item.is (omega arith) (sym c.is_default.ensures ∙ c.if-is_default.false)), c.loop-item.invariant.1)

pub default_refusal-returns-clause-first : goal.default_refusal-returns-clause-first
default_refusal-returns-clause-first t c = default_none c.args.walk.now.is_combinational c.args.walk.now.written.now (names_of c.args.scope.now) c.args.items.now c.loop-item.item-index (omega arith) c.loop-item.invariant.0

pub each_turn_refusal-loop-turn-init : goal.each_turn_refusal-loop-turn-init
each_turn_refusal-loop-turn-init t c = (λ names a. splits_start _, λ d. refl, c.requires.declared, c.requires.sized, c.requires.width)

pub each_turn_refusal-turn_refusal-requires : goal.each_turn_refusal-turn_refusal-requires
each_turn_refusal-turn_refusal-requires t c = (search (rules, the_lemmas), (c.loop-turn.invariant.3, (c.loop-turn.invariant.2, c.loop-turn.invariant.4)))

pub each_turn_refusal-returns-in-Ends-clause-first : goal.each_turn_refusal-returns-in-Ends-clause-first
each_turn_refusal-returns-in-Ends-clause-first t c = λ names a. splits_end _ _ c.loop-turn.found c.in-Ends.last c.earlier.result (c.loop-turn.invariant.0 names a) (left_ends c.args.walk.now.is_combinational c.args.walk.now.written.now (loop_of c.args.header.now) (steps_of c.args.body.now) names (with_name (names_of c.loop-turn.scope) c.args.header.now.name.now.name (Some (Constant c.loop-turn.word 0 c.args.header.now.is_signed))) c.loop-turn.word c.loop-turn.turn c.in-Ends.last (omega arith) c.loop-turn.invariant.4 (c.loop-turn.invariant.1 (Some (Constant c.loop-turn.word 0 c.args.header.now.is_signed)) ∙ a (Some (Constant c.loop-turn.word 0 c.args.header.now.is_signed))) (subst (IsTurn c.args.walk.now.is_combinational c.args.walk.now.written.now (loop_of c.args.header.now) (steps_of c.args.body.now) (with_name (names_of c.loop-turn.scope) c.args.header.now.name.now.name (Some (Constant c.loop-turn.word 0 c.args.header.now.is_signed)))) c.in-Ends.is c.in_ok-answer.ensures.turn)) c.earlier.ensures

pub each_turn_refusal-loop-turn-preserved : goal.each_turn_refusal-loop-turn-preserved
each_turn_refusal-loop-turn-preserved t c =
    let next = subst (IsTurn c.args.walk.now.is_combinational c.args.walk.now.written.now (loop_of c.args.header.now) (steps_of c.args.body.now) (with_name (names_of c.loop-turn.scope) c.args.header.now.name.now.name (Some (Constant c.loop-turn.word 0 c.args.header.now.is_signed)))) c.in-GoesOn.is c.in_ok-answer.ensures.turn in (
      λ names a. splits_on _ _ (step_refusals c.args.walk.now.is_combinational c.args.walk.now.written.now (steps_of c.args.body.now (with_name (names_of c.loop-turn.scope) c.args.header.now.name.now.name (Some (Constant c.loop-turn.word 0 c.args.header.now.is_signed))))) _ c.loop-turn.found c.in-GoesOn.refusal c.earlier-found.result (c.loop-turn.invariant.0 names a) (left_more c.args.walk.now.is_combinational c.args.walk.now.written.now (loop_of c.args.header.now) (steps_of c.args.body.now) names (with_name (names_of c.loop-turn.scope) c.args.header.now.name.now.name (Some (Constant c.loop-turn.word 0 c.args.header.now.is_signed))) c.loop-turn.word c.in-GoesOn.next c.loop-turn.turn (omega arith) c.loop-turn.invariant.4 (c.loop-turn.invariant.1 (Some (Constant c.loop-turn.word 0 c.args.header.now.is_signed)) ∙ a (Some (Constant c.loop-turn.word 0 c.args.header.now.is_signed))) next.1 next.3) next.2 c.earlier-found.ensures,
      alike_after (names_of c.loop-turn.scope) (names_of c.args.scope.now) (names_of c.turn_refusal.new.scope) c.args.header.now.name.now.name (Some (Constant c.loop-turn.word 0 c.args.header.now.is_signed)) c.in_ok-answer.ensures.kept c.loop-turn.invariant.1,
      some_after (names_of c.loop-turn.scope) (names_of c.turn_refusal.new.scope) c.args.header.now.name.now.name (Constant c.loop-turn.word 0 c.args.header.now.is_signed) c.in_ok-answer.ensures.kept,
      sized_after (names_of c.loop-turn.scope) (names_of c.turn_refusal.new.scope) c.args.header.now.name.now.name c.loop-turn.word c.args.header.now.is_signed c.in_ok-answer.ensures.kept c.loop-turn.invariant.3,
      next.0,
    )

pub each_turn_refusal-returns-in-Ends-clause-kept : goal.each_turn_refusal-returns-in-Ends-clause-kept
each_turn_refusal-returns-in-Ends-clause-kept t c = alike_after (names_of c.loop-turn.scope) (names_of c.args.scope.now) (names_of c.turn_refusal.new.scope) c.args.header.now.name.now.name (Some (Constant c.loop-turn.word 0 c.args.header.now.is_signed)) c.in_ok-answer.ensures.kept c.loop-turn.invariant.1

pub each_turn_refusal-returns-in-Ends-clause-declared : goal.each_turn_refusal-returns-in-Ends-clause-declared
each_turn_refusal-returns-in-Ends-clause-declared t c = some_after (names_of c.loop-turn.scope) (names_of c.turn_refusal.new.scope) c.args.header.now.name.now.name (Constant c.loop-turn.word 0 c.args.header.now.is_signed) c.in_ok-answer.ensures.kept

pub each_turn_refusal-returns-clause-first : goal.each_turn_refusal-returns-clause-first
each_turn_refusal-returns-clause-first t c = λ names a. splits_end _ _ c.loop-turn.found c.last_test.result c.earlier-2.result (c.loop-turn.invariant.0 names a) (left_none c.args.walk.now.is_combinational c.args.walk.now.written.now (loop_of c.args.header.now) (steps_of c.args.body.now) names (names_of c.replace.new.self) c.loop-turn.word c.loop-turn.turn c.last_test.result (omega arith) c.loop-turn.invariant.4 (((rw c.as_str.ensures at c.replace.ensures.declared) ∙ ap (λ (d : Decl). with_name (names_of c.loop-turn.scope) c.args.header.now.name.now.name (Some d)) c.variable.ensures) ∙ (c.loop-turn.invariant.1 (Some (Constant c.loop-turn.word 0 c.args.header.now.is_signed)) ∙ a (Some (Constant c.loop-turn.word 0 c.args.header.now.is_signed)))) (c.last_test.ensures c.args.walk.now.is_combinational c.args.walk.now.written.now)) c.earlier-2.ensures

pub each_turn_refusal-returns-clause-kept : goal.each_turn_refusal-returns-clause-kept
each_turn_refusal-returns-clause-kept t c = alike_after (names_of c.loop-turn.scope) (names_of c.args.scope.now) (names_of c.replace.new.self) c.args.header.now.name.now.name (Some (Constant c.loop-turn.word 0 c.args.header.now.is_signed)) ((rw c.as_str.ensures at c.replace.ensures.declared) ∙ ap (λ (d : Decl). with_name (names_of c.loop-turn.scope) c.args.header.now.name.now.name (Some d)) c.variable.ensures) c.loop-turn.invariant.1

pub each_turn_refusal-returns-clause-declared : goal.each_turn_refusal-returns-clause-declared
each_turn_refusal-returns-clause-declared t c = some_after (names_of c.loop-turn.scope) (names_of c.replace.new.self) c.args.header.now.name.now.name (Constant c.loop-turn.word 0 c.args.header.now.is_signed) ((rw c.as_str.ensures at c.replace.ensures.declared) ∙ ap (λ (d : Decl). with_name (names_of c.loop-turn.scope) c.args.header.now.name.now.name (Some d)) c.variable.ensures)

pub turns_refusal-each_turn_refusal-requires : goal.turns_refusal-each_turn_refusal-requires
turns_refusal-each_turn_refusal-requires t c = (search (rules, the_lemmas), (sized_after (names_of c.args.scope.now) (names_of c.replace-declared.new.self) c.args.header.now.name.now.name c.args.first c.args.header.now.is_signed ((rw c.as_str-name.ensures at c.replace-declared.ensures.declared) ∙ ap (λ (d : Decl). with_name (names_of c.args.scope.now) c.args.header.now.name.now.name (Some d)) c.variable.ensures) c.requires.sized, (some_after (names_of c.args.scope.now) (names_of c.replace-declared.new.self) c.args.header.now.name.now.name (Constant c.args.first 0 c.args.header.now.is_signed) ((rw c.as_str-name.ensures at c.replace-declared.ensures.declared) ∙ ap (λ (d : Decl). with_name (names_of c.args.scope.now) c.args.header.now.name.now.name (Some d)) c.variable.ensures), c.requires.width)))

pub turns_refusal-returns-clause-first : goal.turns_refusal-returns-clause-first
turns_refusal-returns-clause-first t c = c.in_ok-found.ensures.first (names_of c.args.scope.now) (alike_after (names_of c.args.scope.now) (names_of c.args.scope.now) (names_of c.replace-declared.new.self) c.args.header.now.name.now.name (Some (Constant c.args.first 0 c.args.header.now.is_signed)) ((rw c.as_str-name.ensures at c.replace-declared.ensures.declared) ∙ ap (λ (d : Decl). with_name (names_of c.args.scope.now) c.args.header.now.name.now.name (Some d)) c.variable.ensures) (λ d. refl))

pub turns_refusal-returns-clause-kept : goal.turns_refusal-returns-clause-kept
turns_refusal-returns-clause-kept t c = put_back (names_of c.args.scope.now) (names_of c.replace-declared.new.self) (names_of c.each_turn_refusal.new.scope) (names_of c.replace.new.self) c.args.header.now.name.now.name (Some (Constant c.args.first 0 c.args.header.now.is_signed)) c.replace-declared.result ((rw c.as_str-name.ensures at c.replace-declared.ensures.declared) ∙ ap (λ (d : Decl). with_name (names_of c.args.scope.now) c.args.header.now.name.now.name (Some d)) c.variable.ensures) c.in_ok-found.ensures.kept (rw c.as_str-name.ensures at c.replace.ensures.declared) (rw c.as_str-name.ensures at c.replace-declared.ensures.replaced)

pub turn_refusal-statement_refusal-requires : goal.turn_refusal-statement_refusal-requires
turn_refusal-statement_refusal-requires t c = (search (rules, the_lemmas), sized_after (names_of c.args.scope.now) (names_of c.replace.new.self) c.args.header.now.name.now.name c.args.word c.args.header.now.is_signed ((rw c.as_str.ensures at c.replace.ensures.declared) ∙ ap (λ (d : Decl). with_name (names_of c.args.scope.now) c.args.header.now.name.now.name (Some d)) c.variable.ensures) c.requires.sized)

pub turn_refusal-returns-in-Err-clause-turn : goal.turn_refusal-returns-in-Err-clause-turn
turn_refusal-returns-in-Err-clause-turn t c = subst (λ (n : Names). IsTurn c.args.walk.now.is_combinational c.args.walk.now.written.now (loop_of c.args.header.now) (steps_of c.args.body.now) n (Ends (Some c.of_const.result))) ((rw c.as_str.ensures at c.replace.ensures.declared) ∙ ap (λ (d : Decl). with_name (names_of c.args.scope.now) c.args.header.now.name.now.name (Some d)) c.variable.ensures) (λ later. rw c.of_const.ensures (turn_fails c.args.walk.now.is_combinational c.args.walk.now.written.now (loop_of c.args.header.now) (steps_of c.args.body.now) (names_of c.replace.new.self) c.in-Err.error c.in-Err.ensures.refused later))

pub turn_refusal-returns-in-Ok-false-clause-turn : goal.turn_refusal-returns-in-Ok-false-clause-turn
turn_refusal-returns-in-Ok-false-clause-turn t c = subst (λ (n : Names). IsTurn c.args.walk.now.is_combinational c.args.walk.now.written.now (loop_of c.args.header.now) (steps_of c.args.body.now) n (Ends None)) ((rw c.as_str.ensures at c.replace.ensures.declared) ∙ ap (λ (d : Decl). with_name (names_of c.args.scope.now) c.args.header.now.name.now.name (Some d)) c.variable.ensures) (turn_ends c.args.walk.now.is_combinational c.args.walk.now.written.now (loop_of c.args.header.now) (steps_of c.args.body.now) (names_of c.replace.new.self) c.in-Ok-false.field-0 c.in-Ok-false.ensures.refused c.in-Ok-false.ensures.holds c.in-Ok-false.field-0-test)

pub turn_refusal-returns-in-Err-next_word-clause-turn : goal.turn_refusal-returns-in-Err-next_word-clause-turn
turn_refusal-returns-in-Err-next_word-clause-turn t c = subst (λ (n : Names). IsTurn c.args.walk.now.is_combinational c.args.walk.now.written.now (loop_of c.args.header.now) (steps_of c.args.body.now) n (Ends c.earlier.result)) ((rw c.as_str.ensures at c.replace.ensures.declared) ∙ ap (λ (d : Decl). with_name (names_of c.args.scope.now) c.args.header.now.name.now.name (Some d)) c.variable.ensures) (turn_stops c.args.walk.now.is_combinational c.args.walk.now.written.now (loop_of c.args.header.now) (steps_of c.args.body.now) (names_of c.replace.new.self) c.in_ok-found-in-Ok-true.found c.earlier.result c.in-Err-next_word.refusal (turn_goes c.args.walk.now.is_combinational c.args.walk.now.written.now (loop_of c.args.header.now) (steps_of c.args.body.now) (names_of c.replace.new.self) c.in-Ok-true.field-0 c.in-Ok-true.ensures.refused c.in-Ok-true.ensures.holds c.in-Ok-true.field-0-test) c.in_ok-found-in-Ok-true.ensures.first (rw c.in_ok-found-in-Ok-true.ensures.kept at c.in-Err-next_word.ensures.none) c.earlier.ensures)

pub turn_refusal-returns-in-Ok-clause-turn : goal.turn_refusal-returns-in-Ok-clause-turn
turn_refusal-returns-in-Ok-clause-turn t c = subst (λ (n : Names). IsTurn c.args.walk.now.is_combinational c.args.walk.now.written.now (loop_of c.args.header.now) (steps_of c.args.body.now) n (GoesOn c.in_ok-found-in-Ok-true.found c.in-Ok.next)) ((rw c.as_str.ensures at c.replace.ensures.declared) ∙ ap (λ (d : Decl). with_name (names_of c.args.scope.now) c.args.header.now.name.now.name (Some d)) c.variable.ensures) (
    let goes = turn_goes c.args.walk.now.is_combinational c.args.walk.now.written.now (loop_of c.args.header.now) (steps_of c.args.body.now) (names_of c.replace.new.self) c.in-Ok-true.field-0 c.in-Ok-true.ensures.refused c.in-Ok-true.ensures.holds c.in-Ok-true.field-0-test in
    let next = rw c.in_ok-found-in-Ok-true.ensures.kept at c.in-Ok.ensures.next in
    (next.0, next.1, c.in_ok-found-in-Ok-true.ensures.first, λ later. goes later ∙ ap (followed (steps_of c.args.body.now (names_of c.replace.new.self))) (next.2 later)))

pub statement_refusal-returns-in-SeqBlock-clause-first : goal.statement_refusal-returns-in-SeqBlock-clause-first
statement_refusal-returns-in-SeqBlock-clause-first t c = IfOk-weaker c.block_refusal.result _ _ (λ o h. block_first c.args.walk.now.is_combinational c.args.walk.now.written.now (names_of c.args.scope.now) c.args.stmt.now c.in-SeqBlock.field-0 c.in-SeqBlock.field-1 c.in-SeqBlock.body o c.in-SeqBlock.is (rw c.as_slice.ensures at h)) c.block_refusal.ensures.first

pub statement_refusal-returns-in-For-clause-first : goal.statement_refusal-returns-in-For-clause-first
statement_refusal-returns-in-For-clause-first t c = IfOk-weaker c.loop_refusal.result _ _ (λ o h. loop_first c.args.walk.now.is_combinational c.args.walk.now.written.now (names_of c.args.scope.now) c.args.stmt.now c.in-For.span c.in-For.start c.in-For.condition c.in-For.step c.in-For.body o c.in-For.is (rw (c.get-in-For.ensures, c.get-in-For-2.ensures) at h)) c.loop_refusal.ensures.first

pub items_refusal-returns-then-always-clause-kept : goal.items_refusal-returns-then-always-clause-kept
items_refusal-returns-then-always-clause-kept t c = c.in_ok-statement_refusal.ensures.kept ∙ c.loop-item.invariant.1

pub items_refusal-returns-clause-kept : goal.items_refusal-returns-clause-kept
items_refusal-returns-clause-kept t c = c.in_ok-default.ensures.kept ∙ c.loop-item.invariant.1

pub turn_refusal-returns-in-Err-next_word-clause-kept : goal.turn_refusal-returns-in-Err-next_word-clause-kept
turn_refusal-returns-in-Err-next_word-clause-kept t c = c.in_ok-found-in-Ok-true.ensures.kept ∙ ((rw c.as_str.ensures at c.replace.ensures.declared) ∙ ap (λ (d : Decl). with_name (names_of c.args.scope.now) c.args.header.now.name.now.name (Some d)) c.variable.ensures)

pub turn_refusal-returns-in-Ok-clause-kept : goal.turn_refusal-returns-in-Ok-clause-kept
turn_refusal-returns-in-Ok-clause-kept t c = c.in_ok-found-in-Ok-true.ensures.kept ∙ ((rw c.as_str.ensures at c.replace.ensures.declared) ∙ ap (λ (d : Decl). with_name (names_of c.args.scope.now) c.args.header.now.name.now.name (Some d)) c.variable.ensures)

pub loop_refusal-returns-in-Err-clause-first : goal.loop_refusal-returns-in-Err-clause-first
loop_refusal-returns-in-Err-clause-first t c = rw c.of_const.ensures (loop_fails c.args.walk.now.is_combinational c.args.walk.now.written.now (names_of c.args.scope.now) c.args.place c.args.start.now c.args.condition.now c.args.step.now (steps_of c.args.body.now) c.in-Name.name c.get-declared.result _ _ _ _ c.in-Name.is (c.get-declared.ensures ∙ ap (names_of c.args.scope.now) c.as_str.ensures) (c.in-Some-Signal.is ∙ ap Some (rw c.in-Some-Signal.is at c.in-Some-Signal.field-0-is)) c.in-Err.error c.get-value.result.now c.get-value.ensures c.in-Err.ensures.refused)

pub loop_refusal-returns-in-Ok-clause-first : goal.loop_refusal-returns-in-Ok-clause-first
loop_refusal-returns-in-Ok-clause-first t c = IfOk-weaker c.turns_refusal.result _ _ (λ o h. loop_goes c.args.walk.now.is_combinational c.args.walk.now.written.now (names_of c.args.scope.now) c.args.place c.args.start.now c.args.condition.now c.args.step.now (steps_of c.args.body.now) c.in-Name.name c.get-declared.result _ _ _ _ c.in-Name.is (c.get-declared.ensures ∙ ap (names_of c.args.scope.now) c.as_str.ensures) (c.in-Some-Signal.is ∙ ap Some (rw c.in-Some-Signal.is at c.in-Some-Signal.field-0-is)) c.get-value.result.now c.in-Ok.first o c.get-value.ensures c.in-Ok.ensures.refused c.in-Ok.ensures.value h) c.turns_refusal.ensures.first

pub statement_refusal-statement_refusal-requires-in-Some : goal.statement_refusal-statement_refusal-requires-in-Some
statement_refusal-statement_refusal-requires-in-Some t c = (search (rules, the_lemmas), subst AreSized (sym c.in_ok-first-in-Conditional.ensures.kept) c.requires)

pub statement_refusal-returns-in_ok-second-in-Some-clause-first : goal.statement_refusal-returns-in_ok-second-in-Some-clause-first
statement_refusal-returns-in_ok-second-in-Some-clause-first t c = both_first c.args.walk.now.is_combinational c.args.walk.now.written.now (names_of c.args.scope.now) c.args.stmt.now c.in-Conditional.field-0 c.in-Conditional.condition c.in-Conditional.yes c.in-Some.no c.in-Conditional.no _ c.wrong-test.result c.in_ok-first-in-Conditional.first c.in_ok-second-in-Some.second c.earlier-found.result c.earlier.result c.in-Conditional.is c.in-Some.is c.in_ok-first-in-Conditional.ensures.kept (c.wrong-test.ensures (own_faults (names_of c.args.scope.now) c.in-Conditional.condition) (c.own_fault.ensures ∙ ap (λ (x : Expr). least (own_faults (names_of c.args.scope.now) x)) c.get-condition.ensures)) (out_of_box c.args.walk.now.is_combinational c.args.walk.now.written.now (names_of c.args.scope.now) c.get-body.result.now c.in-Conditional.yes c.in_ok-first-in-Conditional.first c.get-body.ensures c.in_ok-first-in-Conditional.ensures.first) (out_of_box c.args.walk.now.is_combinational c.args.walk.now.written.now _ c.get-other.result.now c.in-Some.no c.in_ok-second-in-Some.second c.get-other.ensures c.in_ok-second-in-Some.ensures.first) c.earlier-found.ensures c.earlier.ensures

pub statement_refusal-returns-in-None-clause-first : goal.statement_refusal-returns-in-None-clause-first
statement_refusal-returns-in-None-clause-first t c = only_first c.args.walk.now.is_combinational c.args.walk.now.written.now (names_of c.args.scope.now) c.args.stmt.now c.in-Conditional.field-0 c.in-Conditional.condition c.in-Conditional.yes c.in-Conditional.no c.wrong-test.result c.in_ok-first-in-Conditional.first c.earlier-found.result c.in-Conditional.is c.in-None.is (c.wrong-test.ensures (own_faults (names_of c.args.scope.now) c.in-Conditional.condition) (c.own_fault.ensures ∙ ap (λ (x : Expr). least (own_faults (names_of c.args.scope.now) x)) c.get-condition.ensures)) (out_of_box c.args.walk.now.is_combinational c.args.walk.now.written.now (names_of c.args.scope.now) c.get-body.result.now c.in-Conditional.yes c.in_ok-first-in-Conditional.first c.get-body.ensures c.in_ok-first-in-Conditional.ensures.first) c.earlier-found.ensures

pub statement_refusal-returns-in-Case-clause-first : goal.statement_refusal-returns-in-Case-clause-first
statement_refusal-returns-in-Case-clause-first t c = IfOk-weaker c.case_refusal.result _ _ (λ o h. case_first c.args.walk.now.is_combinational c.args.walk.now.written.now (names_of c.args.scope.now) c.args.stmt.now c.in-Case.field-0 c.in-Case.kind c.in-Case.selector _ c.in-Case.items _ o c.in-Case.is c.get.ensures c.as_slice-in-Case.ensures h) c.case_refusal.ensures.first
