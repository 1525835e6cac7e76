use Rattle.tag_script.proofs.Common.{ℕ, true, false, List, sym, ap, ◌∙◌, map, Ok, arith, bit_or, at_drop_all, err_from_is_err_and, Arm, Statement, Standing, choice, chosen, doing, in_turn, heard}
use Rattle.tag_script.proofs.Common.{standing_of, datum_of}
use Rattle.tag_script.proofs.Done.{assert_fails, assert_holds, assert_stops, assign_heard, assign_stops, tag_heard}
use Rattle.tag_script.proofs.Following.{ended_is}
use Rattle.tag_script.proofs.Walking.{arm_heard, arm_stops, turn_heard, turn_stops}
use Rattle.tag_script.proofs.evaluation.+doing.Goals as goal

pub in_turn-returns-in_err-state : goal.in_turn-returns-in_err-state
in_turn-returns-in_err-state t c =
    let p = err_from_is_err_and c.from_residual.result c.from_residual.ensures.1 in
    rw (p.1, p.2) (sym c.loop-statement.invariant ∙ turn_stops c.args.asked.now.expect.now c.args.asked.now.results c.args.statements.now (standing_of c.loop-statement.state) c.loop-statement.statement-index c.statement-item.result c.in_err-state.field-0.0 (omega arith) c.statement-item.is c.in_err-state.ensures)

pub in_turn-loop-statement-preserved : goal.in_turn-loop-statement-preserved
in_turn-loop-statement-preserved t c =
    sym (turn_heard c.args.asked.now.expect.now c.args.asked.now.results c.args.statements.now (standing_of c.loop-statement.state) c.loop-statement.statement-index c.statement-item.result (standing_of c.in_ok-state.state) (omega arith) c.statement-item.is c.in_ok-state.ensures)
    ∙ c.loop-statement.invariant

pub in_turn-returns : goal.in_turn-returns
in_turn-returns t c =
    sym c.loop-statement.invariant
    ∙ (at_drop_all (λ (ys : List Statement). heard c.args.asked.now.expect.now c.args.asked.now.results (in_turn (map doing ys) (standing_of c.loop-statement.state))) c.args.statements.now c.loop-statement.statement-index (omega arith)
    ∙ ended_is c.args.asked.now.expect.now c.args.asked.now.results (standing_of c.loop-statement.state))

pub taken-returns-in_err-value : goal.taken-returns-in_err-value
taken-returns-in_err-value t c =
    let p = err_from_is_err_and c.from_residual.result c.from_residual.ensures.1 in
    rw (p.1, p.2) (λ other. sym (c.loop-arm.invariant other) ∙ arm_stops c.args.asked.now.expect.now c.args.asked.now.results c.args.arms.now other (standing_of c.args.state) c.loop-arm.arm-index c.arm-item.result c.in_err-value.field-0.0 (omega arith) c.arm-item.is c.in_err-value.ensures)

pub taken-returns-in_err-state : goal.taken-returns-in_err-state
taken-returns-in_err-state t c =
    let p = err_from_is_err_and c.from_residual-in_err-state.result c.from_residual-in_err-state.ensures.1 in
    rw (p.1, p.2) (λ other. sym (c.loop-arm.invariant other) ∙ (arm_heard c.args.asked.now.expect.now c.args.asked.now.results c.args.arms.now other (standing_of c.args.state) c.loop-arm.arm-index c.arm-item.result (datum_of c.in_ok-value.value) true (omega arith) c.arm-item.is c.in_ok-value.ensures (sym c.is_true.ensures ∙ c.if-is_true.true) ∙ (ap (λ (ys : List Statement). heard c.args.asked.now.expect.now c.args.asked.now.results (in_turn (map doing ys) (standing_of c.args.state))) (sym c.as_slice.ensures) ∙ c.in_err-state.ensures)))

pub taken-returns-then-is_true : goal.taken-returns-then-is_true
taken-returns-then-is_true t c =
    λ other. sym (c.loop-arm.invariant other) ∙ (arm_heard c.args.asked.now.expect.now c.args.asked.now.results c.args.arms.now other (standing_of c.args.state) c.loop-arm.arm-index c.arm-item.result (datum_of c.in_ok-value.value) true (omega arith) c.arm-item.is c.in_ok-value.ensures (sym c.is_true.ensures ∙ c.if-is_true.true) ∙ (ap (λ (ys : List Statement). heard c.args.asked.now.expect.now c.args.asked.now.results (in_turn (map doing ys) (standing_of c.args.state))) (sym c.as_slice.ensures) ∙ c.in_ok-state.ensures))

pub taken-loop-arm-preserved : goal.taken-loop-arm-preserved
taken-loop-arm-preserved t c =
    λ other. sym (arm_heard c.args.asked.now.expect.now c.args.asked.now.results c.args.arms.now other (standing_of c.args.state) c.loop-arm.arm-index c.arm-item.result (datum_of c.in_ok-value.value) false (omega arith) c.arm-item.is c.in_ok-value.ensures (sym c.is_true.ensures ∙ c.if-is_true.false)) ∙ c.loop-arm.invariant other

pub taken-returns : goal.taken-returns
taken-returns t c =
    λ other. sym (c.loop-arm.invariant other) ∙ at_drop_all (λ (ys : List Arm). heard c.args.asked.now.expect.now c.args.asked.now.results (chosen (map choice ys) other (standing_of c.args.state))) c.args.arms.now c.loop-arm.arm-index (omega arith)

pub doing-returns-in_err-value-in-Assign : goal.doing-returns-in_err-value-in-Assign
doing-returns-in_err-value-in-Assign t c =
    let p = err_from_is_err_and c.from_residual.result c.from_residual.ensures.1 in
    rw (p.1, p.2) (assign_stops c.args.asked.now.expect.now c.args.asked.now.results (standing_of c.args.state) c.args.statement.now c.in-Assign.place c.in-Assign.value c.in_err-value-in-Assign.field-0.0 c.in-Assign.is c.in_err-value-in-Assign.ensures)

pub doing-returns-in_ok-value-in-Assign : goal.doing-returns-in_ok-value-in-Assign
doing-returns-in_ok-value-in-Assign t c =
    assign_heard c.args.asked.now.expect.now c.args.asked.now.results (standing_of c.args.state) c.args.statement.now c.in-Assign.place c.in-Assign.value (datum_of c.in_ok-value-in-Assign.value) c.in-Assign.is c.in_ok-value-in-Assign.ensures ∙ ap (λ (s : Standing). Ok s) (sym c.with_value.ensures)

pub doing-returns-in-Tag : goal.doing-returns-in-Tag
doing-returns-in-Tag t c =
    tag_heard c.args.asked.now.expect.now c.args.asked.now.results (standing_of c.args.state) c.args.statement.now c.in-Tag.tag c.in-Tag.is ∙ ap (λ (bit : ℕ). let s : Standing = record { names = map datum_of c.args.state.names; tags = bit_or c.args.state.tags bit } in Ok s) (sym c.tag_bit.ensures)

pub doing-returns-in_err-value-in-Assert : goal.doing-returns-in_err-value-in-Assert
doing-returns-in_err-value-in-Assert t c =
    let p = err_from_is_err_and c.from_residual-in_err-value-in-Assert.result c.from_residual-in_err-value-in-Assert.ensures.1 in
    rw (p.1, p.2) (assert_stops c.args.asked.now.expect.now c.args.asked.now.results (standing_of c.args.state) c.args.statement.now c.in-Assert.line c.in-Assert.condition c.in_err-value-in-Assert.field-0.0 c.in-Assert.is c.in_err-value-in-Assert.ensures)

pub doing-returns-then-is_true : goal.doing-returns-then-is_true
doing-returns-then-is_true t c =
    assert_holds c.args.asked.now.expect.now c.args.asked.now.results (standing_of c.args.state) c.args.statement.now c.in-Assert.line c.in-Assert.condition (datum_of c.in_ok-value-in-Assert.value) c.in-Assert.is c.in_ok-value-in-Assert.ensures (sym c.is_true.ensures ∙ c.if-is_true.true)

pub doing-returns-else-is_true : goal.doing-returns-else-is_true
doing-returns-else-is_true t c =
    assert_fails c.args.asked.now.expect.now c.args.asked.now.results (standing_of c.args.state) c.args.statement.now c.in-Assert.line c.in-Assert.condition (datum_of c.in_ok-value-in-Assert.value) c.in-Assert.is c.in_ok-value-in-Assert.ensures (sym c.is_true.ensures ∙ c.if-is_true.false)
