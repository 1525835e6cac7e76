use Rattle.flat_clocks.proofs.Common.{refl, add-one, arith, None, expr_reads, names_in}
use Rattle.flat_clocks.proofs.Firsts.{moved, more}
use Rattle.flat_clocks.proofs.Expressions.{number_first, bit_first, part_first, indexed_first, binary_first, conditional_first, concatenation_first, multiple_first, call_first}
use Rattle.flat_clocks.proofs.reads.+expr.Goals as goal

pub expr_read-returns-in-Number : goal.expr_read-returns-in-Number
expr_read-returns-in-Number t c = number_first (names_in c.args.names.now) c.args.expr.now None c.in-Number.field-0 c.in-Number.is refl

pub expr_read-returns-in-BitSelect : goal.expr_read-returns-in-BitSelect
expr_read-returns-in-BitSelect t c = bit_first (names_in c.args.names.now) c.args.expr.now c.earlier.result c.in-BitSelect.name c.in-BitSelect.field-1 c.in-BitSelect.index _ _ _ c.in-BitSelect.is c.get.ensures c.read-in-BitSelect.ensures c.expr_read.ensures c.earlier.ensures

pub expr_read-returns-in-PartSelect : goal.expr_read-returns-in-PartSelect
expr_read-returns-in-PartSelect t c = part_first (names_in c.args.names.now) c.args.expr.now c.earlier-in-PartSelect-2.result c.in-PartSelect.name c.in-PartSelect.field-1 c.in-PartSelect.msb c.in-PartSelect.lsb c.in-PartSelect.msb c.in-PartSelect.lsb _ _ c.in-PartSelect.is refl refl c.read-in-PartSelect.ensures (c.earlier-in-PartSelect.ensures _ _ (moved (expr_reads (names_in c.args.names.now)) _ _ c.expr_read-in-PartSelect.result c.get-in-PartSelect.ensures c.expr_read-in-PartSelect.ensures) (moved (expr_reads (names_in c.args.names.now)) _ _ c.expr_read-in-PartSelect-2.result c.get-in-PartSelect-2.ensures c.expr_read-in-PartSelect-2.ensures)) c.earlier-in-PartSelect-2.ensures

pub expr_read-returns-in-IndexedPartSelect : goal.expr_read-returns-in-IndexedPartSelect
expr_read-returns-in-IndexedPartSelect t c = indexed_first (names_in c.args.names.now) c.args.expr.now c.earlier-in-IndexedPartSelect-2.result c.in-IndexedPartSelect.name c.in-IndexedPartSelect.field-1 c.in-IndexedPartSelect.base c.in-IndexedPartSelect.width c.in-IndexedPartSelect.base c.in-IndexedPartSelect.width _ _ c.in-IndexedPartSelect.is refl refl c.read-in-IndexedPartSelect.ensures (c.earlier-in-IndexedPartSelect.ensures _ _ (moved (expr_reads (names_in c.args.names.now)) _ _ c.expr_read-in-IndexedPartSelect.result c.get-in-IndexedPartSelect.ensures c.expr_read-in-IndexedPartSelect.ensures) (moved (expr_reads (names_in c.args.names.now)) _ _ c.expr_read-in-IndexedPartSelect-2.result c.get-in-IndexedPartSelect-2.ensures c.expr_read-in-IndexedPartSelect-2.ensures)) c.earlier-in-IndexedPartSelect-2.ensures

pub expr_read-returns-in-Binary : goal.expr_read-returns-in-Binary
expr_read-returns-in-Binary t c = binary_first (names_in c.args.names.now) c.args.expr.now c.earlier-in-Binary.result c.in-Binary.field-0 c.in-Binary.field-1 c.in-Binary.left c.in-Binary.right c.in-Binary.left c.in-Binary.right c.in-Binary.is refl refl (c.earlier-in-Binary.ensures _ _ (moved (expr_reads (names_in c.args.names.now)) _ _ c.expr_read-in-Binary.result c.get-in-Binary.ensures c.expr_read-in-Binary.ensures) (moved (expr_reads (names_in c.args.names.now)) _ _ c.expr_read-in-Binary-2.result c.get-in-Binary-2.ensures c.expr_read-in-Binary-2.ensures))

pub expr_read-returns-in-Conditional : goal.expr_read-returns-in-Conditional
expr_read-returns-in-Conditional t c = conditional_first (names_in c.args.names.now) c.args.expr.now c.earlier-in-Conditional-2.result c.in-Conditional.field-0 c.in-Conditional.condition c.in-Conditional.first c.in-Conditional.second _ c.in-Conditional.first c.in-Conditional.second _ _ c.in-Conditional.is c.get-in-Conditional.ensures refl refl c.expr_read-in-Conditional.ensures (c.earlier-in-Conditional.ensures _ _ (moved (expr_reads (names_in c.args.names.now)) _ _ c.expr_read-in-Conditional-2.result c.get-in-Conditional-2.ensures c.expr_read-in-Conditional-2.ensures) (moved (expr_reads (names_in c.args.names.now)) _ _ c.expr_read-in-Conditional-3.result c.get-in-Conditional-3.ensures c.expr_read-in-Conditional-3.ensures)) c.earlier-in-Conditional-2.ensures

pub expr_read-returns-in-Concatenation : goal.expr_read-returns-in-Concatenation
expr_read-returns-in-Concatenation t c = concatenation_first (names_in c.args.names.now) c.args.expr.now c.exprs_read.result c.in-Concatenation.field-0 c.in-Concatenation.parts _ c.in-Concatenation.is c.as_slice.ensures c.exprs_read.ensures

pub expr_read-returns-in-MultipleConcatenation : goal.expr_read-returns-in-MultipleConcatenation
expr_read-returns-in-MultipleConcatenation t c = multiple_first (names_in c.args.names.now) c.args.expr.now c.earlier-in-MultipleConcatenation.result c.in-MultipleConcatenation.field-0 c.in-MultipleConcatenation.count _ c.in-MultipleConcatenation.parts _ _ _ c.in-MultipleConcatenation.is c.get-in-MultipleConcatenation.ensures c.as_slice-in-MultipleConcatenation.ensures c.expr_read-in-MultipleConcatenation.ensures c.exprs_read-in-MultipleConcatenation.ensures c.earlier-in-MultipleConcatenation.ensures

pub expr_read-returns-in-SystemFunctionCall : goal.expr_read-returns-in-SystemFunctionCall
expr_read-returns-in-SystemFunctionCall t c = call_first (names_in c.args.names.now) c.args.expr.now c.exprs_read-in-SystemFunctionCall.result c.in-SystemFunctionCall.field-0 c.in-SystemFunctionCall.arguments _ c.in-SystemFunctionCall.is c.as_slice-in-SystemFunctionCall.ensures c.exprs_read-in-SystemFunctionCall.ensures

pub exprs_read-loop-expr-preserved : goal.exprs_read-loop-expr-preserved
exprs_read-loop-expr-preserved t c = rw add-one (more (expr_reads (names_in c.args.names.now)) c.args.exprs.now c.loop-expr.expr-index c.expr-item.result c.loop-expr.found c.expr_read.result c.earlier-found.result c.expr-item.is (omega arith) c.loop-expr.invariant c.expr_read.ensures c.earlier-found.ensures)

pub exprs_read-loop-expr-init : goal.exprs_read-loop-expr-init
exprs_read-loop-expr-init t c = refl
