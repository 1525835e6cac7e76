use Rattle.flat_clocks.proofs.Common.{refl, add-one, arith, None, form_reads, names_in}
use Rattle.flat_clocks.proofs.Firsts.{more}
use Rattle.flat_clocks.proofs.Expressions.{bit_form, part_form, indexed_form, concatenation_form, number_form, name_form, inner_form, unary_form, binary_form, conditional_form, multiple_form}
use Rattle.flat_clocks.proofs.Expressions.{call_form}
use Rattle.flat_clocks.proofs.reads.+form.Goals as goal

pub form_read-returns-in-BitSelect : goal.form_read-returns-in-BitSelect
form_read-returns-in-BitSelect t c = bit_form (names_in c.args.names.now) c.args.expr.now c.expr_read.result c.in-BitSelect.field-0 c.in-BitSelect.field-1 c.in-BitSelect.index _ c.in-BitSelect.is c.get.ensures c.expr_read.ensures

pub form_read-returns-in-PartSelect : goal.form_read-returns-in-PartSelect
form_read-returns-in-PartSelect t c = part_form (names_in c.args.names.now) c.args.expr.now c.pair_read.result c.in-PartSelect.field-0 c.in-PartSelect.field-1 c.in-PartSelect.msb c.in-PartSelect.lsb _ _ c.in-PartSelect.is c.get-in-PartSelect.ensures c.get-in-PartSelect-2.ensures c.pair_read.ensures

pub form_read-returns-in-IndexedPartSelect : goal.form_read-returns-in-IndexedPartSelect
form_read-returns-in-IndexedPartSelect t c = indexed_form (names_in c.args.names.now) c.args.expr.now c.pair_read-in-IndexedPartSelect.result c.in-IndexedPartSelect.field-0 c.in-IndexedPartSelect.field-1 c.in-IndexedPartSelect.base c.in-IndexedPartSelect.width _ _ c.in-IndexedPartSelect.is c.get-in-IndexedPartSelect.ensures c.get-in-IndexedPartSelect-2.ensures c.pair_read-in-IndexedPartSelect.ensures

pub form_read-returns-in-Concatenation : goal.form_read-returns-in-Concatenation
form_read-returns-in-Concatenation t c = concatenation_form (names_in c.args.names.now) c.args.expr.now c.forms_read.result c.in-Concatenation.field-0 c.in-Concatenation.parts _ c.in-Concatenation.is c.as_slice.ensures c.forms_read.ensures

pub form_read-returns-in-Number : goal.form_read-returns-in-Number
form_read-returns-in-Number t c = number_form (names_in c.args.names.now) c.args.expr.now None c.in-Number.field-0 c.in-Number.is

pub form_read-returns-in-Name : goal.form_read-returns-in-Name
form_read-returns-in-Name t c = name_form (names_in c.args.names.now) c.args.expr.now None c.in-Name.field-0 c.in-Name.is

pub form_read-returns-in-Parenthesized : goal.form_read-returns-in-Parenthesized
form_read-returns-in-Parenthesized t c = inner_form (names_in c.args.names.now) c.args.expr.now None c.in-Parenthesized.field-0 c.in-Parenthesized.field-1 c.in-Parenthesized.is

pub form_read-returns-in-Unary : goal.form_read-returns-in-Unary
form_read-returns-in-Unary t c = unary_form (names_in c.args.names.now) c.args.expr.now None c.in-Unary.field-0 c.in-Unary.field-1 c.in-Unary.field-2 c.in-Unary.is

pub form_read-returns-in-Binary : goal.form_read-returns-in-Binary
form_read-returns-in-Binary t c = binary_form (names_in c.args.names.now) c.args.expr.now None c.in-Binary.field-0 c.in-Binary.field-1 c.in-Binary.field-2 c.in-Binary.field-3 c.in-Binary.is

pub form_read-returns-in-Conditional : goal.form_read-returns-in-Conditional
form_read-returns-in-Conditional t c = conditional_form (names_in c.args.names.now) c.args.expr.now None c.in-Conditional.field-0 c.in-Conditional.field-1 c.in-Conditional.field-2 c.in-Conditional.field-3 c.in-Conditional.is

pub form_read-returns-in-MultipleConcatenation : goal.form_read-returns-in-MultipleConcatenation
form_read-returns-in-MultipleConcatenation t c = multiple_form (names_in c.args.names.now) c.args.expr.now None c.in-MultipleConcatenation.field-0 c.in-MultipleConcatenation.field-1 c.in-MultipleConcatenation.field-2 c.in-MultipleConcatenation.is

pub form_read-returns-in-SystemFunctionCall : goal.form_read-returns-in-SystemFunctionCall
form_read-returns-in-SystemFunctionCall t c = call_form (names_in c.args.names.now) c.args.expr.now None c.in-SystemFunctionCall.field-0 c.in-SystemFunctionCall.field-1 c.in-SystemFunctionCall.is

pub forms_read-loop-expr-preserved : goal.forms_read-loop-expr-preserved
forms_read-loop-expr-preserved t c = rw add-one (more (form_reads (names_in c.args.names.now)) c.args.exprs.now c.loop-expr.expr-index c.expr-item.result c.loop-expr.found c.form_read.result c.earlier-found.result c.expr-item.is (omega arith) c.loop-expr.invariant c.form_read.ensures c.earlier-found.ensures)

pub forms_read-loop-expr-init : goal.forms_read-loop-expr-init
forms_read-loop-expr-init t c = refl
