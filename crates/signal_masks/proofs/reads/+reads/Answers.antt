use Rattle.signal_masks.proofs.Common.{rules, sym, ap, add-one, arith, ◌∙◌, names_of, sense}
use Rattle.vlog_syntax.specs.declared.expr.Expr.TheViews.{the_lemmas}
use Rattle.vlog_meaning.specs.declared.shapes.Shape.{Shape}
use Rattle.vlog_meaning.proofs.Whole.{whole_name, whole_index, whole_part, whole_indexed, whole_inner, whole_operand, whole_pair, whole_choice, whole_join, whole_times, whole_arguments, element_whole}
use Rattle.signal_masks.proofs.Selects.{bit_sized, part_sized, indexed_sized}
use Rattle.signal_masks.proofs.Reading.{reads_number, reads_name, reads_bit, reads_part, reads_indexed, reads_inner, reads_operand, reads_pair, reads_choice, reads_joined, reads_repeated, reads_call}
use Rattle.signal_masks.proofs.Reading.{more_reads, select_constant, select_other}
use Rattle.signal_masks.proofs.reads.+reads.Goals as goal
use Rattle.signal_masks.proofs.Placing.{or_end}

pub reads_of-name_bits-requires : goal.reads_of-name_bits-requires
reads_of-name_bits-requires t c = whole_name (names_of c.args.scope.now) c.args.expr.now c.in-Name.name c.in-Name.is c.requires

pub reads_of-select_reads-requires : goal.reads_of-select_reads-requires
reads_of-select_reads-requires t c = (search (rules, the_lemmas), (bit_sized (names_of c.args.scope.now) c.args.expr.now c.in-BitSelect.name c.in-BitSelect.field-1 c.in-BitSelect.index c.in-BitSelect.is c.requires, rw c.get.ensures (whole_index (names_of c.args.scope.now) c.args.expr.now c.in-BitSelect.name c.in-BitSelect.field-1 c.in-BitSelect.index c.in-BitSelect.is c.requires)))

pub reads_of-shape_of-size-requires-in-PartSelect : goal.reads_of-shape_of-size-requires-in-PartSelect
reads_of-shape_of-size-requires-in-PartSelect t c = c.requires

pub reads_of-integer_of-requires : goal.reads_of-integer_of-requires
reads_of-integer_of-requires t c = rw c.get-in-PartSelect.ensures (whole_part (names_of c.args.scope.now) c.args.expr.now c.in-PartSelect.name c.in-PartSelect.field-1 c.in-PartSelect.field-2 c.in-PartSelect.lsb c.in-PartSelect.is c.requires).lsb

pub reads_of-part_bits-requires-clause-sized : goal.reads_of-part_bits-requires-clause-sized
reads_of-part_bits-requires-clause-sized t c = part_sized (names_of c.args.scope.now) c.args.expr.now c.in-PartSelect.name c.in-PartSelect.field-1 c.in-PartSelect.field-2 c.in-PartSelect.lsb c.in-PartSelect.is c.requires

pub reads_of-part_bits-requires-clause-small : goal.reads_of-part_bits-requires-clause-small
reads_of-part_bits-requires-clause-small t c = c.integer_of.ensures.small

pub reads_of-shape_of-size-requires-in-IndexedPartSelect : goal.reads_of-shape_of-size-requires-in-IndexedPartSelect
reads_of-shape_of-size-requires-in-IndexedPartSelect t c = c.requires

pub reads_of-select_reads-requires-in-IndexedPartSelect : goal.reads_of-select_reads-requires-in-IndexedPartSelect
reads_of-select_reads-requires-in-IndexedPartSelect t c = (search (rules, the_lemmas), (indexed_sized (names_of c.args.scope.now) c.args.expr.now c.in-IndexedPartSelect.name c.in-IndexedPartSelect.field-1 c.in-IndexedPartSelect.base c.in-IndexedPartSelect.field-3 c.in-IndexedPartSelect.is c.requires, rw c.get-in-IndexedPartSelect.ensures (whole_indexed (names_of c.args.scope.now) c.args.expr.now c.in-IndexedPartSelect.name c.in-IndexedPartSelect.field-1 c.in-IndexedPartSelect.base c.in-IndexedPartSelect.field-3 c.in-IndexedPartSelect.is c.requires).base))

pub reads_of-reads_of-requires : goal.reads_of-reads_of-requires
reads_of-reads_of-requires t c = (search (rules, the_lemmas), rw c.get-in-Parenthesized.ensures (whole_inner (names_of c.args.scope.now) c.args.expr.now c.in-Parenthesized.field-0 c.in-Parenthesized.inner c.in-Parenthesized.is c.requires))

pub reads_of-reads_of-requires-in-Unary : goal.reads_of-reads_of-requires-in-Unary
reads_of-reads_of-requires-in-Unary t c = (search (rules, the_lemmas), rw c.get-in-Unary.ensures (whole_operand (names_of c.args.scope.now) c.args.expr.now c.in-Unary.field-0 c.in-Unary.field-1 c.in-Unary.operand c.in-Unary.is c.requires))

pub reads_of-reads_of-requires-in-Binary : goal.reads_of-reads_of-requires-in-Binary
reads_of-reads_of-requires-in-Binary t c = (search (rules, the_lemmas), rw c.get-in-Binary.ensures (whole_pair (names_of c.args.scope.now) c.args.expr.now c.in-Binary.field-0 c.in-Binary.field-1 c.in-Binary.left c.in-Binary.right c.in-Binary.is c.requires).0)

pub reads_of-reads_of-requires-in-Binary-2 : goal.reads_of-reads_of-requires-in-Binary-2
reads_of-reads_of-requires-in-Binary-2 t c = (search (rules, the_lemmas), rw c.get-in-Binary-2.ensures (whole_pair (names_of c.args.scope.now) c.args.expr.now c.in-Binary.field-0 c.in-Binary.field-1 c.in-Binary.left c.in-Binary.right c.in-Binary.is c.requires).1)

pub reads_of-reads_of-requires-in-Conditional : goal.reads_of-reads_of-requires-in-Conditional
reads_of-reads_of-requires-in-Conditional t c = (search (rules, the_lemmas), rw c.get-in-Conditional.ensures (whole_choice (names_of c.args.scope.now) c.args.expr.now c.in-Conditional.field-0 c.in-Conditional.condition c.in-Conditional.yes c.in-Conditional.no c.in-Conditional.is c.requires).0)

pub reads_of-reads_of-requires-in-Conditional-2 : goal.reads_of-reads_of-requires-in-Conditional-2
reads_of-reads_of-requires-in-Conditional-2 t c = (search (rules, the_lemmas), rw c.get-in-Conditional-2.ensures (whole_choice (names_of c.args.scope.now) c.args.expr.now c.in-Conditional.field-0 c.in-Conditional.condition c.in-Conditional.yes c.in-Conditional.no c.in-Conditional.is c.requires).1)

pub reads_of-reads_of-requires-in-Conditional-3 : goal.reads_of-reads_of-requires-in-Conditional-3
reads_of-reads_of-requires-in-Conditional-3 t c = (search (rules, the_lemmas), rw c.get-in-Conditional-3.ensures (whole_choice (names_of c.args.scope.now) c.args.expr.now c.in-Conditional.field-0 c.in-Conditional.condition c.in-Conditional.yes c.in-Conditional.no c.in-Conditional.is c.requires).2)

pub reads_of-reads_of_all-requires : goal.reads_of-reads_of_all-requires
reads_of-reads_of_all-requires t c = (search (rules, the_lemmas), rw c.as_slice.ensures (whole_join (names_of c.args.scope.now) c.args.expr.now c.in-Concatenation.field-0 c.in-Concatenation.parts c.in-Concatenation.is c.requires).parts)

pub reads_of-reads_of_all-requires-in-MultipleConcatenation : goal.reads_of-reads_of_all-requires-in-MultipleConcatenation
reads_of-reads_of_all-requires-in-MultipleConcatenation t c = (search (rules, the_lemmas), rw c.as_slice-in-MultipleConcatenation.ensures (whole_times (names_of c.args.scope.now) c.args.expr.now c.in-MultipleConcatenation.field-0 c.in-MultipleConcatenation.field-1 c.in-MultipleConcatenation.parts c.in-MultipleConcatenation.is c.requires).parts)

pub reads_of-reads_of_all-requires-in-SystemFunctionCall : goal.reads_of-reads_of_all-requires-in-SystemFunctionCall
reads_of-reads_of_all-requires-in-SystemFunctionCall t c = (search (rules, the_lemmas), rw c.as_slice-in-SystemFunctionCall.ensures (whole_arguments (names_of c.args.scope.now) c.args.expr.now c.in-SystemFunctionCall.field-0 c.in-SystemFunctionCall.arguments c.in-SystemFunctionCall.is c.requires))

pub reads_of-returns-in-Number : goal.reads_of-returns-in-Number
reads_of-returns-in-Number t c = λ n i. reads_number (names_of c.args.scope.now) c.args.expr.now n i c.in-Number.field-0 _ c.in-Number.is

pub reads_of-returns-in_ok-name_bits-in-Name : goal.reads_of-returns-in_ok-name_bits-in-Name
reads_of-returns-in_ok-name_bits-in-Name t c = λ n i. reads_name (names_of c.args.scope.now) c.args.expr.now n i c.in-Name.name _ _ c.in-Name.is (c.in_ok-name_bits-in-Name.ensures n i)

pub reads_of-returns-in_ok-select_reads-in-BitSelect : goal.reads_of-returns-in_ok-select_reads-in-BitSelect
reads_of-returns-in_ok-select_reads-in-BitSelect t c = λ n i. reads_bit (names_of c.args.scope.now) c.args.expr.now n i c.in-BitSelect.name c.in-BitSelect.field-1 c.in-BitSelect.index _ _ c.in-BitSelect.is ((rw c.get.ensures at c.in_ok-select_reads-in-BitSelect.ensures) n i)

pub reads_of-returns-in_ok-part_bits-in-PartSelect : goal.reads_of-returns-in_ok-part_bits-in-PartSelect
reads_of-returns-in_ok-part_bits-in-PartSelect t c = λ n i. reads_part (names_of c.args.scope.now) c.args.expr.now n i c.in-PartSelect.name c.in-PartSelect.field-1 c.in-PartSelect.field-2 c.in-PartSelect.lsb _ _ _ _ c.in-PartSelect.is (rw c.get-in-PartSelect.ensures at c.integer_of.ensures.value) (ap (λ (s : Shape). s.width) c.shape_of-size.ensures.shape) (c.in_ok-part_bits-in-PartSelect.ensures n i)

pub reads_of-returns-in_ok-select_reads-in-IndexedPartSelect : goal.reads_of-returns-in_ok-select_reads-in-IndexedPartSelect
reads_of-returns-in_ok-select_reads-in-IndexedPartSelect t c = λ n i. reads_indexed (names_of c.args.scope.now) c.args.expr.now n i c.in-IndexedPartSelect.name c.in-IndexedPartSelect.field-1 c.in-IndexedPartSelect.base c.in-IndexedPartSelect.field-3 _ _ _ c.in-IndexedPartSelect.is (ap (λ (s : Shape). s.width) c.shape_of-size-in-IndexedPartSelect.ensures.shape) ((rw c.get-in-IndexedPartSelect.ensures at c.in_ok-select_reads-in-IndexedPartSelect.ensures) n i)

pub reads_of-returns-in_ok-reads_of-in-Parenthesized : goal.reads_of-returns-in_ok-reads_of-in-Parenthesized
reads_of-returns-in_ok-reads_of-in-Parenthesized t c = λ n i. reads_inner (names_of c.args.scope.now) c.args.expr.now n i c.in-Parenthesized.field-0 c.in-Parenthesized.inner _ _ c.in-Parenthesized.is ((rw c.get-in-Parenthesized.ensures at c.in_ok-reads_of-in-Parenthesized.ensures) n i)

pub reads_of-returns-in_ok-reads_of-in-Unary : goal.reads_of-returns-in_ok-reads_of-in-Unary
reads_of-returns-in_ok-reads_of-in-Unary t c = λ n i. reads_operand (names_of c.args.scope.now) c.args.expr.now n i c.in-Unary.field-0 c.in-Unary.field-1 c.in-Unary.operand _ _ c.in-Unary.is ((rw c.get-in-Unary.ensures at c.in_ok-reads_of-in-Unary.ensures) n i)

pub reads_of-returns-in_ok-reads_of-in-Binary-2 : goal.reads_of-returns-in_ok-reads_of-in-Binary-2
reads_of-returns-in_ok-reads_of-in-Binary-2 t c = λ n i. reads_pair (names_of c.args.scope.now) c.args.expr.now n i c.in-Binary.field-0 c.in-Binary.field-1 c.in-Binary.left c.in-Binary.right _ _ _ c.in-Binary.is ((rw c.get-in-Binary.ensures at c.in_ok-reads_of-in-Binary.ensures) n i) ((rw c.get-in-Binary-2.ensures at c.in_ok-reads_of-in-Binary-2.ensures) n i)

pub reads_of-returns-in_ok-reads_of-in-Conditional-3 : goal.reads_of-returns-in_ok-reads_of-in-Conditional-3
reads_of-returns-in_ok-reads_of-in-Conditional-3 t c = λ n i. reads_choice (names_of c.args.scope.now) c.args.expr.now n i c.in-Conditional.field-0 c.in-Conditional.condition c.in-Conditional.yes c.in-Conditional.no _ _ _ _ c.in-Conditional.is ((rw c.get-in-Conditional.ensures at c.in_ok-reads_of-in-Conditional.ensures) n i) ((rw c.get-in-Conditional-2.ensures at c.in_ok-reads_of-in-Conditional-2.ensures) n i) ((rw c.get-in-Conditional-3.ensures at c.in_ok-reads_of-in-Conditional-3.ensures) n i)

pub reads_of-returns-in_ok-reads_of_all-in-Concatenation : goal.reads_of-returns-in_ok-reads_of_all-in-Concatenation
reads_of-returns-in_ok-reads_of_all-in-Concatenation t c = λ n i. reads_joined (names_of c.args.scope.now) c.args.expr.now n i c.in-Concatenation.field-0 c.in-Concatenation.parts _ _ c.in-Concatenation.is ((rw c.as_slice.ensures at c.in_ok-reads_of_all-in-Concatenation.ensures) n i)

pub reads_of-returns-in_ok-reads_of_all-in-MultipleConcatenation : goal.reads_of-returns-in_ok-reads_of_all-in-MultipleConcatenation
reads_of-returns-in_ok-reads_of_all-in-MultipleConcatenation t c = λ n i. reads_repeated (names_of c.args.scope.now) c.args.expr.now n i c.in-MultipleConcatenation.field-0 c.in-MultipleConcatenation.field-1 c.in-MultipleConcatenation.parts _ _ c.in-MultipleConcatenation.is ((rw c.as_slice-in-MultipleConcatenation.ensures at c.in_ok-reads_of_all-in-MultipleConcatenation.ensures) n i)

pub reads_of-returns-in_ok-reads_of_all-in-SystemFunctionCall : goal.reads_of-returns-in_ok-reads_of_all-in-SystemFunctionCall
reads_of-returns-in_ok-reads_of_all-in-SystemFunctionCall t c = λ n i. reads_call (names_of c.args.scope.now) c.args.expr.now n i c.in-SystemFunctionCall.field-0 c.in-SystemFunctionCall.arguments _ _ c.in-SystemFunctionCall.is ((rw c.as_slice-in-SystemFunctionCall.ensures at c.in_ok-reads_of_all-in-SystemFunctionCall.ensures) n i)

pub select_reads-integer_of-requires : goal.select_reads-integer_of-requires
select_reads-integer_of-requires t c = c.requires.whole

pub select_reads-part_bits-requires-clause-sized : goal.select_reads-part_bits-requires-clause-sized
select_reads-part_bits-requires-clause-sized t c = c.requires.sized

pub select_reads-part_bits-requires-clause-small : goal.select_reads-part_bits-requires-clause-small
select_reads-part_bits-requires-clause-small t c = c.integer_of.ensures.small

pub select_reads-name_bits-requires : goal.select_reads-name_bits-requires
select_reads-name_bits-requires t c = c.requires.sized

pub select_reads-reads_of-requires : goal.select_reads-reads_of-requires
select_reads-reads_of-requires t c = (search (rules, the_lemmas), c.requires.whole)

pub select_reads-returns-in_ok-part_bits : goal.select_reads-returns-in_ok-part_bits
select_reads-returns-in_ok-part_bits t c = λ n i. select_constant (names_of c.args.scope.now c.args.name.now.name) (sense (names_of c.args.scope.now) c.args.index.now) c.args.size n i _ _ _ (sym c.is_constant.ensures ∙ c.if-is_constant.true) c.integer_of.ensures.value (c.in_ok-part_bits.ensures n i)

pub select_reads-returns-in_ok-reads_of : goal.select_reads-returns-in_ok-reads_of
select_reads-returns-in_ok-reads_of t c = λ n i. select_other (names_of c.args.scope.now c.args.name.now.name) (sense (names_of c.args.scope.now) c.args.index.now) c.args.size n i _ _ _ (sym c.is_constant.ensures ∙ c.if-is_constant.false) (c.in_ok-name_bits.ensures n i) (c.in_ok-reads_of.ensures n i)

pub reads_of_all-reads_of-requires : goal.reads_of_all-reads_of-requires
reads_of_all-reads_of-requires t c = (search (rules, the_lemmas), element_whole (names_of c.args.scope.now) c.args.exprs.now c.loop-expr.expr-index c.expr-item.result c.expr-item.is (omega arith) c.requires)

pub reads_of_all-loop-expr-init : goal.reads_of_all-loop-expr-init
reads_of_all-loop-expr-init t c = λ n i. sym (or_end _)

pub reads_of_all-loop-expr-preserved : goal.reads_of_all-loop-expr-preserved
reads_of_all-loop-expr-preserved t c = λ n i. rw add-one (more_reads (names_of c.args.scope.now) c.args.exprs.now c.loop-expr.expr-index c.expr-item.result n i _ _ _ c.expr-item.is (omega arith) (c.loop-expr.invariant n i) (c.in_ok-reads_of.ensures n i))
