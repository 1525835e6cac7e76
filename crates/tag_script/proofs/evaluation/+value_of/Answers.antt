use Rattle.tag_script.proofs.Common.{ℕ, Bool, true, false, List, sym, ap, ◌∙◌, map, not, Ok, arith, at_drop_all, err_from_is_err_and, Expr, decided, value_of, heard, word_read, datum_of, text, truth}
use Rattle.tag_lines.specs.declared.expr.Expr.TheVariants.{Compare, Not, Text}
use Rattle.tag_script.proofs.Following.{ended_is}
use Rattle.tag_script.proofs.Valued.{compare_heard, left_stops, name_heard, not_heard, not_stops, number_heard, right_stops, text_heard, word_heard, word_stops}
use Rattle.tag_script.proofs.Walking.{operand_heard, operand_stops}
use Rattle.tag_script.proofs.evaluation.+value_of.Goals as goal

pub decided-returns-in_err-last : goal.decided-returns-in_err-last
decided-returns-in_err-last t c =
    let p = err_from_is_err_and c.from_residual.result c.from_residual.ensures.1 in
    rw (p.1, p.2) (sym c.loop-operand.invariant ∙ operand_stops c.args.asked.now.expect.now c.args.asked.now.results c.args.deciding (datum_of c.loop-operand.last) c.args.operands.now (map datum_of c.args.names.now) c.loop-operand.operand-index c.operand-item.result c.in_err-last.field-0.0 (omega arith) c.operand-item.is c.in_err-last.ensures)

pub decided-returns-then-decides : goal.decided-returns-then-decides
decided-returns-then-decides t c =
    sym c.loop-operand.invariant
    ∙ (operand_heard c.args.asked.now.expect.now c.args.asked.now.results c.args.deciding (datum_of c.loop-operand.last) c.args.operands.now (map datum_of c.args.names.now) c.loop-operand.operand-index c.operand-item.result (datum_of c.in_ok-last.last) true (omega arith) c.operand-item.is c.in_ok-last.ensures (sym c.decides.ensures ∙ c.if-decides.true)
    ∙ ended_is c.args.asked.now.expect.now c.args.asked.now.results (datum_of c.in_ok-last.last))

pub decided-loop-operand-preserved : goal.decided-loop-operand-preserved
decided-loop-operand-preserved t c =
    sym (operand_heard c.args.asked.now.expect.now c.args.asked.now.results c.args.deciding (datum_of c.loop-operand.last) c.args.operands.now (map datum_of c.args.names.now) c.loop-operand.operand-index c.operand-item.result (datum_of c.in_ok-last.last) false (omega arith) c.operand-item.is c.in_ok-last.ensures (sym c.decides.ensures ∙ c.if-decides.false))
    ∙ c.loop-operand.invariant

pub decided-returns : goal.decided-returns
decided-returns t c =
    sym c.loop-operand.invariant
    ∙ (at_drop_all (λ (ys : List Expr). heard c.args.asked.now.expect.now c.args.asked.now.results (decided c.args.deciding (datum_of c.loop-operand.last) (map value_of ys) (map datum_of c.args.names.now))) c.args.operands.now c.loop-operand.operand-index (omega arith)
    ∙ ended_is c.args.asked.now.expect.now c.args.asked.now.results (datum_of c.loop-operand.last))

pub value_of-returns-in_err-word-in-Word : goal.value_of-returns-in_err-word-in-Word
value_of-returns-in_err-word-in-Word t c =
    let p = err_from_is_err_and c.from_residual.result c.from_residual.ensures.1 in
    rw (p.1, p.2) (word_stops c.args.asked.now.expect.now c.args.asked.now.results (map datum_of c.args.names.now) c.args.expr.now c.in-Word.test c.in_err-word-in-Word.field-0.0 c.in-Word.is (ap (word_read c.args.asked.now.expect.now c.args.asked.now.results) (sym c.test_number.ensures) ∙ sym c.in_err-word-in-Word.ensures))

pub value_of-returns-in_err-value-in-Not : goal.value_of-returns-in_err-value-in-Not
value_of-returns-in_err-value-in-Not t c =
    let p = err_from_is_err_and c.from_residual-in_err-value-in-Not.result c.from_residual-in_err-value-in-Not.ensures.1 in
    rw (p.1, p.2) (not_stops c.args.asked.now.expect.now c.args.asked.now.results (map datum_of c.args.names.now) c.args.expr.now c.get.result.now c.in_err-value-in-Not.field-0.0 (c.in-Not.is ∙ ap Not (sym c.get.ensures)) c.in_err-value-in-Not.ensures)

pub value_of-returns-in_err-left-in-Compare : goal.value_of-returns-in_err-left-in-Compare
value_of-returns-in_err-left-in-Compare t c =
    let p = err_from_is_err_and c.from_residual-in_err-left-in-Compare.result c.from_residual-in_err-left-in-Compare.ensures.1 in
    rw (p.1, p.2) (left_stops c.args.asked.now.expect.now c.args.asked.now.results (map datum_of c.args.names.now) c.args.expr.now c.get-in-Compare.result.now c.in-Compare.operator c.in-Compare.right c.in_err-left-in-Compare.field-0.0 (c.in-Compare.is ∙ ap (λ (x : Expr). Compare x c.in-Compare.operator c.in-Compare.right) (sym c.get-in-Compare.ensures)) c.in_err-left-in-Compare.ensures)

pub value_of-returns-in_err-right-in-Compare : goal.value_of-returns-in_err-right-in-Compare
value_of-returns-in_err-right-in-Compare t c =
    let p = err_from_is_err_and c.from_residual-in_err-right-in-Compare.result c.from_residual-in_err-right-in-Compare.ensures.1 in
    rw (p.1, p.2) (right_stops c.args.asked.now.expect.now c.args.asked.now.results (map datum_of c.args.names.now) c.args.expr.now c.get-in-Compare.result.now c.in-Compare.operator c.get-in-Compare-2.result.now (datum_of c.in_ok-left-in-Compare.left) c.in_err-right-in-Compare.field-0.0 (c.in-Compare.is ∙ (ap (λ (x : Expr). Compare x c.in-Compare.operator c.in-Compare.right) (sym c.get-in-Compare.ensures) ∙ ap (λ (x : Expr). Compare c.get-in-Compare.result.now c.in-Compare.operator x) (sym c.get-in-Compare-2.ensures))) c.in_ok-left-in-Compare.ensures c.in_err-right-in-Compare.ensures)

pub value_of-returns-in-Number : goal.value_of-returns-in-Number
value_of-returns-in-Number t c = number_heard c.args.asked.now.expect.now c.args.asked.now.results (map datum_of c.args.names.now) c.args.expr.now c.in-Number.number c.in-Number.is

pub value_of-returns-in-Text : goal.value_of-returns-in-Text
value_of-returns-in-Text t c = text_heard c.args.asked.now.expect.now c.args.asked.now.results (map datum_of c.args.names.now) c.args.expr.now c.as_slice.result.now (c.in-Text.is ∙ ap Text (sym c.as_slice.ensures))

pub value_of-returns-in-Name : goal.value_of-returns-in-Name
value_of-returns-in-Name t c = name_heard c.args.asked.now.expect.now c.args.asked.now.results (map datum_of c.args.names.now) c.args.expr.now c.in-Name.place c.in-Name.is ∙ ap Ok (sym c.name_value.ensures)

pub value_of-returns-in_ok-word-in-Word : goal.value_of-returns-in_ok-word-in-Word
value_of-returns-in_ok-word-in-Word t c = word_heard c.args.asked.now.expect.now c.args.asked.now.results (map datum_of c.args.names.now) c.args.expr.now c.in-Word.test c.in_ok-word-in-Word.word c.in-Word.is (ap (word_read c.args.asked.now.expect.now c.args.asked.now.results) (sym c.test_number.ensures) ∙ sym c.in_ok-word-in-Word.ensures) ∙ ap (λ (ys : List ℕ). Ok (text ys)) (sym c.word_text.ensures)

pub value_of-returns-in_ok-value-in-Not : goal.value_of-returns-in_ok-value-in-Not
value_of-returns-in_ok-value-in-Not t c = not_heard c.args.asked.now.expect.now c.args.asked.now.results (map datum_of c.args.names.now) c.args.expr.now c.get.result.now (datum_of c.in_ok-value-in-Not.value) (c.in-Not.is ∙ ap Not (sym c.get.ensures)) c.in_ok-value-in-Not.ensures ∙ (ap (λ (b : Bool). Ok (truth (not b))) (sym c.is_true.ensures) ∙ ap Ok (sym c.truth.ensures))

pub value_of-returns-in_ok-right-in-Compare : goal.value_of-returns-in_ok-right-in-Compare
value_of-returns-in_ok-right-in-Compare t c = compare_heard c.args.asked.now.expect.now c.args.asked.now.results (map datum_of c.args.names.now) c.args.expr.now c.get-in-Compare.result.now c.in-Compare.operator c.get-in-Compare-2.result.now (datum_of c.in_ok-left-in-Compare.left) (datum_of c.in_ok-right-in-Compare.right) (c.in-Compare.is ∙ (ap (λ (x : Expr). Compare x c.in-Compare.operator c.in-Compare.right) (sym c.get-in-Compare.ensures) ∙ ap (λ (x : Expr). Compare c.get-in-Compare.result.now c.in-Compare.operator x) (sym c.get-in-Compare-2.ensures))) c.in_ok-left-in-Compare.ensures c.in_ok-right-in-Compare.ensures ∙ ap Ok (sym c.compared.ensures)
