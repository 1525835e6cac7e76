use Rattle.vlog_meaning.proofs.Common.{◌++◌, ◌∙◌, rules, sym, ap, arith, refl, subst, add-one, List, take, Expr, the_lemmas, DivideByZero, names_of, nothing, Sense, sense, senses, own_zeros}
use Rattle.vlog_meaning.proofs.Common.{all_zeros, IsContext, least_at}
use Rattle.vlog_meaning.proofs.Contexts.{own_context}
use Rattle.vlog_meaning.proofs.Divisions.{operand_at, operand_zeros, operator_zeros}
use Rattle.vlog_meaning.proofs.Firsts.{least_nil, pair_of, zeros_take}
use Rattle.vlog_meaning.proofs.Results.{left_at, right_at, yes_at, no_at}
use Rattle.vlog_meaning.proofs.Steps as step
use Rattle.vlog_meaning.proofs.Whole.{whole_index, whole_indexed, whole_inner, whole_operand, whole_pair, whole_choice, whole_join, whole_times, whole_arguments, element_whole, nothing_stored}
use Rattle.vlog_meaning.proofs.zeros.+zero.Goals as goal

pub zero_in-own_zero_in-requires : goal.zero_in-own_zero_in-requires
zero_in-own_zero_in-requires t c = (search (rules, the_lemmas), rw c.get.ensures (whole_index (names_of c.args.scope.now) c.args.expr.now c.in-BitSelect.field-0 c.in-BitSelect.field-1 c.in-BitSelect.index c.in-BitSelect.is c.requires.whole))

pub zero_in-own_zero_in-requires-in-IndexedPartSelect : goal.zero_in-own_zero_in-requires-in-IndexedPartSelect
zero_in-own_zero_in-requires-in-IndexedPartSelect t c = (search (rules, the_lemmas), rw c.get-in-IndexedPartSelect.ensures (whole_indexed (names_of c.args.scope.now) c.args.expr.now c.in-IndexedPartSelect.field-0 c.in-IndexedPartSelect.field-1 c.in-IndexedPartSelect.base c.in-IndexedPartSelect.field-3 c.in-IndexedPartSelect.is c.requires.whole).base)

pub zero_in-zero_in-requires : goal.zero_in-zero_in-requires
zero_in-zero_in-requires t c = (search (rules, the_lemmas), (rw c.get-in-Parenthesized.ensures (whole_inner (names_of c.args.scope.now) c.args.expr.now c.in-Parenthesized.field-0 c.in-Parenthesized.inner c.in-Parenthesized.is c.requires.whole), rw c.get-in-Parenthesized.ensures (subst (λ (y : Sense). IsContext y.shape c.args.context) (ap (sense (names_of c.args.scope.now)) c.in-Parenthesized.is ∙ step.sense_parenthesized (names_of c.args.scope.now) c.in-Parenthesized.field-0 c.in-Parenthesized.inner) c.requires.context)))

pub zero_in-shape_of-requires-in-Unary : goal.zero_in-shape_of-requires-in-Unary
zero_in-shape_of-requires-in-Unary t c = rw c.get-in-Unary.ensures (whole_operand (names_of c.args.scope.now) c.args.expr.now c.in-Unary.field-0 c.in-Unary.op c.in-Unary.operand c.in-Unary.is c.requires.whole)

pub zero_in-zero_in-requires-in-Unary : goal.zero_in-zero_in-requires-in-Unary
zero_in-zero_in-requires-in-Unary t c = (search (rules, the_lemmas), (rw c.get-in-Unary-2.ensures (whole_operand (names_of c.args.scope.now) c.args.expr.now c.in-Unary.field-0 c.in-Unary.op c.in-Unary.operand c.in-Unary.is c.requires.whole), rw c.get-in-Unary-2.ensures (operand_at (names_of c.args.scope.now) c.args.expr.now c.in-Unary.field-0 c.in-Unary.op c.in-Unary.operand c.args.context c.shape_of.result c.operand_context-at.result c.in-Unary.is c.requires.context (c.shape_of.ensures.shape ∙ ap (λ (x : Expr). (sense (names_of c.args.scope.now) x).shape) c.get-in-Unary.ensures) c.shape_of.ensures.sized c.operand_context-at.ensures)))

pub zero_in-shape_of-left_shape-requires-in-Binary : goal.zero_in-shape_of-left_shape-requires-in-Binary
zero_in-shape_of-left_shape-requires-in-Binary t c = rw c.get-in-Binary.ensures (whole_pair (names_of c.args.scope.now) c.args.expr.now c.in-Binary.span c.in-Binary.op c.in-Binary.left c.in-Binary.right c.in-Binary.is c.requires.whole).0

pub zero_in-shape_of-right_shape-requires-in-Binary : goal.zero_in-shape_of-right_shape-requires-in-Binary
zero_in-shape_of-right_shape-requires-in-Binary t c = rw c.get-in-Binary-2.ensures (whole_pair (names_of c.args.scope.now) c.args.expr.now c.in-Binary.span c.in-Binary.op c.in-Binary.left c.in-Binary.right c.in-Binary.is c.requires.whole).1

pub zero_in-value_of-a-requires : goal.zero_in-value_of-a-requires
zero_in-value_of-a-requires t c = record { whole = rw c.get-in-Binary-3.ensures (whole_pair (names_of c.args.scope.now) c.args.expr.now c.in-Binary.span c.in-Binary.op c.in-Binary.left c.in-Binary.right c.in-Binary.is c.requires.whole).0; stored = nothing_stored (names_of c.args.scope.now); context = rw c.get-in-Binary-3.ensures (left_at (names_of c.args.scope.now) c.args.expr.now c.in-Binary.span c.in-Binary.op c.in-Binary.left c.in-Binary.right c.args.context c.shape_of-left_shape.result c.shape_of-right_shape.result c.sizing_of-sizing.result c.in-Binary.is c.requires.context c.sizing_of-sizing.ensures (c.shape_of-left_shape.ensures.shape ∙ ap (λ (x : Expr). (sense (names_of c.args.scope.now) x).shape) c.get-in-Binary.ensures) (c.shape_of-right_shape.ensures.shape ∙ ap (λ (x : Expr). (sense (names_of c.args.scope.now) x).shape) c.get-in-Binary-2.ensures) c.shape_of-left_shape.ensures.sized c.shape_of-right_shape.ensures.sized c.left_context-left_at.result c.left_context-left_at.ensures) }

pub zero_in-value_of-b-requires : goal.zero_in-value_of-b-requires
zero_in-value_of-b-requires t c = record { whole = rw c.get-in-Binary-4.ensures (whole_pair (names_of c.args.scope.now) c.args.expr.now c.in-Binary.span c.in-Binary.op c.in-Binary.left c.in-Binary.right c.in-Binary.is c.requires.whole).1; stored = nothing_stored (names_of c.args.scope.now); context = rw c.get-in-Binary-4.ensures (right_at (names_of c.args.scope.now) c.args.expr.now c.in-Binary.span c.in-Binary.op c.in-Binary.left c.in-Binary.right c.args.context c.shape_of-left_shape.result c.shape_of-right_shape.result c.sizing_of-sizing.result c.in-Binary.is c.requires.context c.sizing_of-sizing.ensures (c.shape_of-left_shape.ensures.shape ∙ ap (λ (x : Expr). (sense (names_of c.args.scope.now) x).shape) c.get-in-Binary.ensures) (c.shape_of-right_shape.ensures.shape ∙ ap (λ (x : Expr). (sense (names_of c.args.scope.now) x).shape) c.get-in-Binary-2.ensures) c.shape_of-left_shape.ensures.sized c.shape_of-right_shape.ensures.sized c.right_context-right_at.result c.right_context-right_at.ensures) }

pub zero_in-zero_in-requires-in-Binary : goal.zero_in-zero_in-requires-in-Binary
zero_in-zero_in-requires-in-Binary t c = (search (rules, the_lemmas), (rw c.get-in-Binary-5.ensures (whole_pair (names_of c.args.scope.now) c.args.expr.now c.in-Binary.span c.in-Binary.op c.in-Binary.left c.in-Binary.right c.in-Binary.is c.requires.whole).0, rw c.get-in-Binary-5.ensures (left_at (names_of c.args.scope.now) c.args.expr.now c.in-Binary.span c.in-Binary.op c.in-Binary.left c.in-Binary.right c.args.context c.shape_of-left_shape.result c.shape_of-right_shape.result c.sizing_of-sizing.result c.in-Binary.is c.requires.context c.sizing_of-sizing.ensures (c.shape_of-left_shape.ensures.shape ∙ ap (λ (x : Expr). (sense (names_of c.args.scope.now) x).shape) c.get-in-Binary.ensures) (c.shape_of-right_shape.ensures.shape ∙ ap (λ (x : Expr). (sense (names_of c.args.scope.now) x).shape) c.get-in-Binary-2.ensures) c.shape_of-left_shape.ensures.sized c.shape_of-right_shape.ensures.sized c.left_context-left_at.result c.left_context-left_at.ensures)))

pub zero_in-zero_in-requires-in-Binary-2 : goal.zero_in-zero_in-requires-in-Binary-2
zero_in-zero_in-requires-in-Binary-2 t c = (search (rules, the_lemmas), (rw c.get-in-Binary-6.ensures (whole_pair (names_of c.args.scope.now) c.args.expr.now c.in-Binary.span c.in-Binary.op c.in-Binary.left c.in-Binary.right c.in-Binary.is c.requires.whole).1, rw c.get-in-Binary-6.ensures (right_at (names_of c.args.scope.now) c.args.expr.now c.in-Binary.span c.in-Binary.op c.in-Binary.left c.in-Binary.right c.args.context c.shape_of-left_shape.result c.shape_of-right_shape.result c.sizing_of-sizing.result c.in-Binary.is c.requires.context c.sizing_of-sizing.ensures (c.shape_of-left_shape.ensures.shape ∙ ap (λ (x : Expr). (sense (names_of c.args.scope.now) x).shape) c.get-in-Binary.ensures) (c.shape_of-right_shape.ensures.shape ∙ ap (λ (x : Expr). (sense (names_of c.args.scope.now) x).shape) c.get-in-Binary-2.ensures) c.shape_of-left_shape.ensures.sized c.shape_of-right_shape.ensures.sized c.right_context-right_at.result c.right_context-right_at.ensures)))

pub zero_in-own_zero_in-requires-in-Conditional : goal.zero_in-own_zero_in-requires-in-Conditional
zero_in-own_zero_in-requires-in-Conditional t c = (search (rules, the_lemmas), rw c.get-in-Conditional.ensures (whole_choice (names_of c.args.scope.now) c.args.expr.now c.in-Conditional.field-0 c.in-Conditional.condition c.in-Conditional.yes c.in-Conditional.no c.in-Conditional.is c.requires.whole).0)

pub zero_in-zero_in-requires-in-Conditional : goal.zero_in-zero_in-requires-in-Conditional
zero_in-zero_in-requires-in-Conditional t c = (search (rules, the_lemmas), (rw c.get-in-Conditional-2.ensures (whole_choice (names_of c.args.scope.now) c.args.expr.now c.in-Conditional.field-0 c.in-Conditional.condition c.in-Conditional.yes c.in-Conditional.no c.in-Conditional.is c.requires.whole).1, rw c.get-in-Conditional-2.ensures (yes_at (names_of c.args.scope.now) c.args.expr.now c.in-Conditional.field-0 c.in-Conditional.condition c.in-Conditional.yes c.in-Conditional.no c.args.context c.in-Conditional.is c.requires.context)))

pub zero_in-zero_in-requires-in-Conditional-2 : goal.zero_in-zero_in-requires-in-Conditional-2
zero_in-zero_in-requires-in-Conditional-2 t c = (search (rules, the_lemmas), (rw c.get-in-Conditional-3.ensures (whole_choice (names_of c.args.scope.now) c.args.expr.now c.in-Conditional.field-0 c.in-Conditional.condition c.in-Conditional.yes c.in-Conditional.no c.in-Conditional.is c.requires.whole).2, rw c.get-in-Conditional-3.ensures (no_at (names_of c.args.scope.now) c.args.expr.now c.in-Conditional.field-0 c.in-Conditional.condition c.in-Conditional.yes c.in-Conditional.no c.args.context c.in-Conditional.is c.requires.context)))

pub zero_in-own_zeros_in-requires : goal.zero_in-own_zeros_in-requires
zero_in-own_zeros_in-requires t c = (search (rules, the_lemmas), rw c.as_slice.ensures (whole_join (names_of c.args.scope.now) c.args.expr.now c.in-Concatenation.field-0 c.in-Concatenation.parts c.in-Concatenation.is c.requires.whole).parts)

pub zero_in-own_zeros_in-requires-in-MultipleConcatenation : goal.zero_in-own_zeros_in-requires-in-MultipleConcatenation
zero_in-own_zeros_in-requires-in-MultipleConcatenation t c = (search (rules, the_lemmas), rw c.as_slice-in-MultipleConcatenation.ensures (whole_times (names_of c.args.scope.now) c.args.expr.now c.in-MultipleConcatenation.field-0 c.in-MultipleConcatenation.field-1 c.in-MultipleConcatenation.parts c.in-MultipleConcatenation.is c.requires.whole).parts)

pub zero_in-zero_in_call-requires : goal.zero_in-zero_in_call-requires
zero_in-zero_in_call-requires t c = (search (rules, the_lemmas), rw c.as_slice-in-SystemFunctionCall.ensures (whole_arguments (names_of c.args.scope.now) c.args.expr.now c.in-SystemFunctionCall.name c.in-SystemFunctionCall.arguments c.in-SystemFunctionCall.is c.requires.whole))

pub zero_in-returns-in-Number : goal.zero_in-returns-in-Number
zero_in-returns-in-Number t c = least_nil DivideByZero ∙ sym (ap (λ (x : Sense). least_at DivideByZero (x.zeros c.args.context)) (ap (sense (names_of c.args.scope.now)) c.in-Number.is ∙ step.sense_number (names_of c.args.scope.now) c.in-Number.field-0))

pub zero_in-returns-in-Name : goal.zero_in-returns-in-Name
zero_in-returns-in-Name t c = least_nil DivideByZero ∙ sym (ap (λ (x : Sense). least_at DivideByZero (x.zeros c.args.context)) (ap (sense (names_of c.args.scope.now)) c.in-Name.is ∙ step.sense_name (names_of c.args.scope.now) c.in-Name.field-0))

pub zero_in-returns-in-PartSelect : goal.zero_in-returns-in-PartSelect
zero_in-returns-in-PartSelect t c = least_nil DivideByZero ∙ sym (ap (λ (x : Sense). least_at DivideByZero (x.zeros c.args.context)) (ap (sense (names_of c.args.scope.now)) c.in-PartSelect.is ∙ step.sense_part_select (names_of c.args.scope.now) c.in-PartSelect.field-0 c.in-PartSelect.field-1 c.in-PartSelect.field-2 c.in-PartSelect.field-3))

pub zero_in-returns-in-BitSelect : goal.zero_in-returns-in-BitSelect
zero_in-returns-in-BitSelect t c = c.own_zero_in.ensures ∙ ap (λ (x : Expr). least_at DivideByZero (own_zeros (sense (names_of c.args.scope.now) x))) c.get.ensures ∙ sym (ap (λ (x : Sense). least_at DivideByZero (x.zeros c.args.context)) (ap (sense (names_of c.args.scope.now)) c.in-BitSelect.is ∙ step.sense_bit_select (names_of c.args.scope.now) c.in-BitSelect.field-0 c.in-BitSelect.field-1 c.in-BitSelect.index))

pub zero_in-returns-in-IndexedPartSelect : goal.zero_in-returns-in-IndexedPartSelect
zero_in-returns-in-IndexedPartSelect t c = c.own_zero_in-in-IndexedPartSelect.ensures ∙ ap (λ (x : Expr). least_at DivideByZero (own_zeros (sense (names_of c.args.scope.now) x))) c.get-in-IndexedPartSelect.ensures ∙ sym (ap (λ (x : Sense). least_at DivideByZero (x.zeros c.args.context)) (ap (sense (names_of c.args.scope.now)) c.in-IndexedPartSelect.is ∙ step.sense_indexed_part_select (names_of c.args.scope.now) c.in-IndexedPartSelect.field-0 c.in-IndexedPartSelect.field-1 c.in-IndexedPartSelect.base c.in-IndexedPartSelect.field-3))

pub zero_in-returns-in-Parenthesized : goal.zero_in-returns-in-Parenthesized
zero_in-returns-in-Parenthesized t c = c.zero_in.ensures ∙ ap (λ (x : Expr). least_at DivideByZero ((sense (names_of c.args.scope.now) x).zeros c.args.context)) c.get-in-Parenthesized.ensures ∙ sym (ap (λ (x : Sense). least_at DivideByZero (x.zeros c.args.context)) (ap (sense (names_of c.args.scope.now)) c.in-Parenthesized.is ∙ step.sense_parenthesized (names_of c.args.scope.now) c.in-Parenthesized.field-0 c.in-Parenthesized.inner))

pub zero_in-returns-in-Unary : goal.zero_in-returns-in-Unary
zero_in-returns-in-Unary t c = operand_zeros (names_of c.args.scope.now) c.args.expr.now c.in-Unary.field-0 c.in-Unary.op c.in-Unary.operand c.args.context c.shape_of.result c.operand_context-at.result c.zero_in-in-Unary.result c.in-Unary.is (c.shape_of.ensures.shape ∙ ap (λ (x : Expr). (sense (names_of c.args.scope.now) x).shape) c.get-in-Unary.ensures) c.operand_context-at.ensures (c.zero_in-in-Unary.ensures ∙ ap (λ (x : Expr). least_at DivideByZero ((sense (names_of c.args.scope.now) x).zeros c.operand_context-at.result)) c.get-in-Unary-2.ensures)

pub zero_in-returns-in-Binary : goal.zero_in-returns-in-Binary
zero_in-returns-in-Binary t c = operator_zeros (names_of c.args.scope.now) c.args.expr.now c.in-Binary.span c.in-Binary.op c.in-Binary.left c.in-Binary.right c.args.context c.shape_of-left_shape.result c.shape_of-right_shape.result c.sizing_of-sizing.result c.in-Binary.is c.sizing_of-sizing.ensures (c.shape_of-left_shape.ensures.shape ∙ ap (λ (x : Expr). (sense (names_of c.args.scope.now) x).shape) c.get-in-Binary.ensures) (c.shape_of-right_shape.ensures.shape ∙ ap (λ (x : Expr). (sense (names_of c.args.scope.now) x).shape) c.get-in-Binary-2.ensures) c.left_context-left_at.result c.right_context-right_at.result c.left_context-left_at.ensures c.right_context-right_at.ensures c.value_of-a.result c.value_of-b.result c.division.result c.zero_in-in-Binary.result c.zero_in-in-Binary-2.result c.earlier.result c.earlier-in-Binary.result (c.value_of-a.ensures.value ∙ ap (λ (x : Expr). (sense (names_of c.args.scope.now) x).value nothing c.left_context-left_at.result) c.get-in-Binary-3.ensures) (c.value_of-b.ensures.value ∙ ap (λ (x : Expr). (sense (names_of c.args.scope.now) x).value nothing c.right_context-right_at.result) c.get-in-Binary-4.ensures) c.division.ensures (c.zero_in-in-Binary.ensures ∙ ap (λ (x : Expr). least_at DivideByZero ((sense (names_of c.args.scope.now) x).zeros c.left_context-left_at.result)) c.get-in-Binary-5.ensures) (c.zero_in-in-Binary-2.ensures ∙ ap (λ (x : Expr). least_at DivideByZero ((sense (names_of c.args.scope.now) x).zeros c.right_context-right_at.result)) c.get-in-Binary-6.ensures) c.earlier.ensures.earlier c.earlier-in-Binary.ensures.earlier

pub zero_in-returns-in-Conditional : goal.zero_in-returns-in-Conditional
zero_in-returns-in-Conditional t c = pair_of DivideByZero (own_zeros (sense (names_of c.args.scope.now) c.in-Conditional.condition)) ((sense (names_of c.args.scope.now) c.in-Conditional.yes).zeros c.args.context ++ (sense (names_of c.args.scope.now) c.in-Conditional.no).zeros c.args.context) c.own_zero_in-in-Conditional.result c.earlier-in-Conditional.result c.earlier-in-Conditional-2.result c.earlier-in-Conditional-2.ensures.earlier (c.own_zero_in-in-Conditional.ensures ∙ ap (λ (x : Expr). least_at DivideByZero (own_zeros (sense (names_of c.args.scope.now) x))) c.get-in-Conditional.ensures) (pair_of DivideByZero ((sense (names_of c.args.scope.now) c.in-Conditional.yes).zeros c.args.context) ((sense (names_of c.args.scope.now) c.in-Conditional.no).zeros c.args.context) c.zero_in-in-Conditional.result c.zero_in-in-Conditional-2.result c.earlier-in-Conditional.result c.earlier-in-Conditional.ensures.earlier (c.zero_in-in-Conditional.ensures ∙ ap (λ (x : Expr). least_at DivideByZero ((sense (names_of c.args.scope.now) x).zeros c.args.context)) c.get-in-Conditional-2.ensures) (c.zero_in-in-Conditional-2.ensures ∙ ap (λ (x : Expr). least_at DivideByZero ((sense (names_of c.args.scope.now) x).zeros c.args.context)) c.get-in-Conditional-3.ensures)) ∙ sym (ap (λ (x : Sense). least_at DivideByZero (x.zeros c.args.context)) (ap (sense (names_of c.args.scope.now)) c.in-Conditional.is ∙ step.sense_conditional (names_of c.args.scope.now) c.in-Conditional.field-0 c.in-Conditional.condition c.in-Conditional.yes c.in-Conditional.no))

pub zero_in-returns-in-Concatenation : goal.zero_in-returns-in-Concatenation
zero_in-returns-in-Concatenation t c = c.own_zeros_in.ensures ∙ ap (λ (x : List Expr). least_at DivideByZero (all_zeros (senses (names_of c.args.scope.now) x))) c.as_slice.ensures ∙ sym (ap (λ (x : Sense). least_at DivideByZero (x.zeros c.args.context)) (ap (sense (names_of c.args.scope.now)) c.in-Concatenation.is ∙ step.sense_concatenation (names_of c.args.scope.now) c.in-Concatenation.field-0 c.in-Concatenation.parts))

pub zero_in-returns-in-MultipleConcatenation : goal.zero_in-returns-in-MultipleConcatenation
zero_in-returns-in-MultipleConcatenation t c = c.own_zeros_in-in-MultipleConcatenation.ensures ∙ ap (λ (x : List Expr). least_at DivideByZero (all_zeros (senses (names_of c.args.scope.now) x))) c.as_slice-in-MultipleConcatenation.ensures ∙ sym (ap (λ (x : Sense). least_at DivideByZero (x.zeros c.args.context)) (ap (sense (names_of c.args.scope.now)) c.in-MultipleConcatenation.is ∙ step.sense_multiple_concatenation (names_of c.args.scope.now) c.in-MultipleConcatenation.field-0 c.in-MultipleConcatenation.field-1 c.in-MultipleConcatenation.parts))

pub zero_in-returns-in-SystemFunctionCall : goal.zero_in-returns-in-SystemFunctionCall
zero_in-returns-in-SystemFunctionCall t c = c.zero_in_call.ensures ∙ rw (c.function_of.ensures, c.as_str.ensures, c.as_slice-in-SystemFunctionCall.ensures) refl ∙ sym (ap (λ (x : Sense). least_at DivideByZero (x.zeros c.args.context)) (ap (sense (names_of c.args.scope.now)) c.in-SystemFunctionCall.is ∙ step.sense_system_function_call (names_of c.args.scope.now) c.in-SystemFunctionCall.name c.in-SystemFunctionCall.arguments))

pub own_zero_in-zero_in-requires : goal.own_zero_in-zero_in-requires
own_zero_in-zero_in-requires t c = (search (rules, the_lemmas), (c.requires, own_context (sense (names_of c.args.scope.now) c.args.expr.now).shape c.shape_of.result c.shape_of.ensures.shape c.shape_of.ensures.sized))

pub own_zeros_in-own_zero_in-requires : goal.own_zeros_in-own_zero_in-requires
own_zeros_in-own_zero_in-requires t c = (search (rules, the_lemmas), element_whole (names_of c.args.scope.now) c.args.exprs.now c.loop-expr.expr-index c.expr-item.result c.expr-item.is (omega arith) c.requires)

pub own_zeros_in-loop-expr-init : goal.own_zeros_in-loop-expr-init
own_zeros_in-loop-expr-init t c = least_nil DivideByZero

pub own_zeros_in-loop-expr-preserved : goal.own_zeros_in-loop-expr-preserved
own_zeros_in-loop-expr-preserved t c = let more = zeros_take (names_of c.args.scope.now) c.args.exprs.now c.loop-expr.expr-index c.expr-item.result c.expr-item.is (omega arith) in rw (add-one, more) (pair_of DivideByZero (all_zeros (senses (names_of c.args.scope.now) (take c.loop-expr.expr-index c.args.exprs.now))) (own_zeros (sense (names_of c.args.scope.now) c.expr-item.result)) c.loop-expr.found c.own_zero_in.result c.earlier-found.result c.earlier-found.ensures.earlier c.loop-expr.invariant c.own_zero_in.ensures)
