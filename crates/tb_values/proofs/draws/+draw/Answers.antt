use Rattle.tb_values.proofs.Common.{refl, arith, sym, ◌∙◌, function_of, senses, all_drawn}
use Rattle.std.proofs.lemmas.Result.{IfOk-weaker}
use Rattle.tb_values.proofs.Drawing.{number_says, name_says, bit_select_says, part_select_says, indexed_part_select_says, parenthesized_says, unary_says, binary_says, conditional_says}
use Rattle.tb_values.proofs.Drawing.{concatenation_says, multiple_concatenation_says, call_says, call_with, ahead_next, ahead_end}
use Rattle.tb_values.proofs.draws.+draw.Goals as goal

pub draw-returns-in-Number : goal.draw-returns-in-Number
draw-returns-in-Number t c = λ names. number_says names c.args.phase c.args.expr.now _ c.in-Number.number c.args.words.now c.in-Number.is refl

pub draw-returns-in_ok-copy-in-Name : goal.draw-returns-in_ok-copy-in-Name
draw-returns-in_ok-copy-in-Name t c = λ names. name_says names c.args.phase c.args.expr.now _ c.in-Name.name c.in_ok-copy-in-Name.field-0 c.args.words.now c.in-Name.is refl c.in_ok-copy-in-Name.ensures

pub draw-returns-in_ok-copy-in-BitSelect : goal.draw-returns-in_ok-copy-in-BitSelect
draw-returns-in_ok-copy-in-BitSelect t c = λ names. bit_select_says names c.args.phase c.args.expr.now _ c.in-BitSelect.name c.in-BitSelect.span c.in_ok-copy-in-BitSelect.field-0 c.in-BitSelect.index c.in_ok-index-in-BitSelect.index c.args.words.now c.draw_part.new.words c.in-BitSelect.is refl c.in_ok-copy-in-BitSelect.ensures (rw c.get.ensures at (c.in_ok-index-in-BitSelect.ensures names))

pub draw-returns-in_ok-copy-in-PartSelect : goal.draw-returns-in_ok-copy-in-PartSelect
draw-returns-in_ok-copy-in-PartSelect t c = λ names. part_select_says names c.args.phase c.args.expr.now _ c.in-PartSelect.name c.in-PartSelect.span c.in_ok-copy-in-PartSelect.field-0 c.in-PartSelect.msb c.in-PartSelect.lsb c.in_ok-msb-in-PartSelect.msb c.in_ok-lsb-in-PartSelect.lsb c.args.words.now c.draw_part-in-PartSelect.new.words c.draw_part-in-PartSelect-2.new.words c.in-PartSelect.is refl c.in_ok-copy-in-PartSelect.ensures (rw c.get-in-PartSelect.ensures at (c.in_ok-msb-in-PartSelect.ensures names)) (rw c.get-in-PartSelect-2.ensures at (c.in_ok-lsb-in-PartSelect.ensures names))

pub draw-returns-in_ok-copy-in-IndexedPartSelect : goal.draw-returns-in_ok-copy-in-IndexedPartSelect
draw-returns-in_ok-copy-in-IndexedPartSelect t c = λ names. indexed_part_select_says names c.args.phase c.args.expr.now _ c.in-IndexedPartSelect.name c.in-IndexedPartSelect.span c.in_ok-copy-in-IndexedPartSelect.field-0 c.in-IndexedPartSelect.base c.in-IndexedPartSelect.width c.in_ok-base-in-IndexedPartSelect.base c.in_ok-width-in-IndexedPartSelect.width c.args.words.now c.draw_part-in-IndexedPartSelect.new.words c.draw_part-in-IndexedPartSelect-2.new.words c.in-IndexedPartSelect.is refl c.in_ok-copy-in-IndexedPartSelect.ensures (rw c.get-in-IndexedPartSelect.ensures at (c.in_ok-base-in-IndexedPartSelect.ensures names)) (rw c.get-in-IndexedPartSelect-2.ensures at (c.in_ok-width-in-IndexedPartSelect.ensures names))

pub draw-returns-in_ok-inner-in-Parenthesized : goal.draw-returns-in_ok-inner-in-Parenthesized
draw-returns-in_ok-inner-in-Parenthesized t c = λ names. parenthesized_says names c.args.phase c.args.expr.now _ c.in-Parenthesized.span c.in-Parenthesized.inner c.in_ok-inner-in-Parenthesized.inner c.args.words.now c.draw_part-in-Parenthesized.new.words c.in-Parenthesized.is refl (rw c.get-in-Parenthesized.ensures at (c.in_ok-inner-in-Parenthesized.ensures names))

pub draw-returns-in_ok-operand-in-Unary : goal.draw-returns-in_ok-operand-in-Unary
draw-returns-in_ok-operand-in-Unary t c = λ names. unary_says names c.args.phase c.args.expr.now _ c.in-Unary.span c.in-Unary.operator c.in-Unary.operand c.in_ok-operand-in-Unary.operand c.args.words.now c.draw_part-in-Unary.new.words c.in-Unary.is refl (rw c.get-in-Unary.ensures at (c.in_ok-operand-in-Unary.ensures names))

pub draw-returns-in_ok-right-in-Binary : goal.draw-returns-in_ok-right-in-Binary
draw-returns-in_ok-right-in-Binary t c = λ names. binary_says names c.args.phase c.args.expr.now _ c.in-Binary.span c.in-Binary.operator c.in-Binary.left c.in-Binary.right c.in_ok-left-in-Binary.left c.in_ok-right-in-Binary.right c.args.words.now c.draw_part-in-Binary.new.words c.draw_part-in-Binary-2.new.words c.in-Binary.is refl (rw c.get-in-Binary.ensures at (c.in_ok-left-in-Binary.ensures names)) (rw c.get-in-Binary-2.ensures at (c.in_ok-right-in-Binary.ensures names))

pub draw-returns-in_ok-no-in-Conditional : goal.draw-returns-in_ok-no-in-Conditional
draw-returns-in_ok-no-in-Conditional t c = λ names. conditional_says names c.args.phase c.args.expr.now _ c.in-Conditional.span c.in-Conditional.condition c.in-Conditional.yes c.in-Conditional.no c.in_ok-condition-in-Conditional.condition c.in_ok-yes-in-Conditional.yes c.in_ok-no-in-Conditional.no c.args.words.now c.draw_part-in-Conditional.new.words c.draw_part-in-Conditional-2.new.words c.draw_part-in-Conditional-3.new.words c.in-Conditional.is refl (rw c.get-in-Conditional.ensures at (c.in_ok-condition-in-Conditional.ensures names)) (rw c.get-in-Conditional-2.ensures at (c.in_ok-yes-in-Conditional.ensures names)) (rw c.get-in-Conditional-3.ensures at (c.in_ok-no-in-Conditional.ensures names))

pub draw-returns-in_ok-parts-in-Concatenation : goal.draw-returns-in_ok-parts-in-Concatenation
draw-returns-in_ok-parts-in-Concatenation t c = λ names. concatenation_says names c.args.phase c.args.expr.now _ c.in-Concatenation.span c.in-Concatenation.parts c.in_ok-parts-in-Concatenation.parts c.args.words.now c.draw_all.new.words c.in-Concatenation.is refl (rw c.as_slice.ensures at (c.in_ok-parts-in-Concatenation.ensures names))

pub draw-returns-in_ok-parts-in-MultipleConcatenation : goal.draw-returns-in_ok-parts-in-MultipleConcatenation
draw-returns-in_ok-parts-in-MultipleConcatenation t c = λ names. multiple_concatenation_says names c.args.phase c.args.expr.now _ c.in-MultipleConcatenation.span c.in-MultipleConcatenation.count c.in_ok-count-in-MultipleConcatenation.count c.in-MultipleConcatenation.parts c.in_ok-parts-in-MultipleConcatenation.parts c.args.words.now c.draw_part-in-MultipleConcatenation.new.words c.draw_all-in-MultipleConcatenation.new.words c.in-MultipleConcatenation.is refl (rw c.get-in-MultipleConcatenation.ensures at (c.in_ok-count-in-MultipleConcatenation.ensures names)) (rw c.as_slice-in-MultipleConcatenation.ensures at (c.in_ok-parts-in-MultipleConcatenation.ensures names))

pub draw-returns-in-SystemFunctionCall : goal.draw-returns-in-SystemFunctionCall
draw-returns-in-SystemFunctionCall t c = λ names. IfOk-weaker c.draw_call.result _ _ (λ x h. call_says names c.args.phase c.args.expr.now c.in-SystemFunctionCall.name c.in-SystemFunctionCall.arguments c.args.words.now _ c.in-SystemFunctionCall.is (rw c.as_slice-in-SystemFunctionCall.ensures at h)) (c.draw_call.ensures names)

pub draw_all-loop-expr-preserved : goal.draw_all-loop-expr-preserved
draw_all-loop-expr-preserved t c = λ names. rw c.in_ok-push.ensures.ok (ahead_next names c.args.phase c.loop-expr.copies c.args.exprs.now c.in_ok-copy.copy c.expr-item.result c.loop-expr.expr-index c.loop-expr.words c.draw.new.words (all_drawn _ c.args.words.now) (omega arith) c.expr-item.is (c.in_ok-copy.ensures names) (c.loop-expr.invariant names))

pub draw_all-returns : goal.draw_all-returns
draw_all-returns t c = λ names. ahead_end names c.args.phase (senses names c.loop-expr.copies) c.args.exprs.now c.loop-expr.expr-index c.loop-expr.words (all_drawn _ c.args.words.now) (omega arith) (c.loop-expr.invariant names)

pub draw_call-returns : goal.draw_call-returns
draw_call-returns t c = λ names. call_with names c.args.phase c.args.name.now c.in_ok-copy.field-0 (function_of c.args.name.now.name) c.args.arguments.now c.in_ok-arguments.arguments _ c.args.words.now c.draw_all.new.words (sym c.is_empty.ensures ∙ c.if-is_empty.false) refl c.in_ok-copy.ensures (c.in_ok-arguments.ensures names)
