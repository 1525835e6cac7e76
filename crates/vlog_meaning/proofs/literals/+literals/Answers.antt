use Rattle.vlog_meaning.proofs.Common.{rules, arith, add-one, the_lemmas, names_of}
use Rattle.vlog_meaning.proofs.Same.{one_more}
use Rattle.vlog_meaning.proofs.Whole.{whole_part, whole_indexed, whole_pair, whole_choice, whole_times, whole_arguments, element_whole}
use Rattle.vlog_meaning.proofs.literals.+literals.Goals as goal

pub with_literals-with_literals-requires : goal.with_literals-with_literals-requires
with_literals-with_literals-requires t c = (search (rules, the_lemmas), rw c.get-in-PartSelect.ensures (whole_part (names_of c.args.scope.now) c.args.expr.now c.in-PartSelect.name c.in-PartSelect.span c.in-PartSelect.msb c.in-PartSelect.lsb c.in-PartSelect.is c.requires).msb)

pub with_literals-with_literals-requires-in-PartSelect : goal.with_literals-with_literals-requires-in-PartSelect
with_literals-with_literals-requires-in-PartSelect t c = (search (rules, the_lemmas), rw c.get-in-PartSelect-2.ensures (whole_part (names_of c.args.scope.now) c.args.expr.now c.in-PartSelect.name c.in-PartSelect.span c.in-PartSelect.msb c.in-PartSelect.lsb c.in-PartSelect.is c.requires).lsb)

pub with_literals-boxed-requires-in-IndexedPartSelect : goal.with_literals-boxed-requires-in-IndexedPartSelect
with_literals-boxed-requires-in-IndexedPartSelect t c = (search (rules, the_lemmas), rw c.get-in-IndexedPartSelect.ensures (whole_indexed (names_of c.args.scope.now) c.args.expr.now c.in-IndexedPartSelect.name c.in-IndexedPartSelect.span c.in-IndexedPartSelect.base c.in-IndexedPartSelect.width c.in-IndexedPartSelect.is c.requires).base)

pub with_literals-with_literals-requires-in-IndexedPartSelect : goal.with_literals-with_literals-requires-in-IndexedPartSelect
with_literals-with_literals-requires-in-IndexedPartSelect t c = (search (rules, the_lemmas), rw c.get-in-IndexedPartSelect-2.ensures (whole_indexed (names_of c.args.scope.now) c.args.expr.now c.in-IndexedPartSelect.name c.in-IndexedPartSelect.span c.in-IndexedPartSelect.base c.in-IndexedPartSelect.width c.in-IndexedPartSelect.is c.requires).width)

pub with_literals-boxed-requires-in-Binary : goal.with_literals-boxed-requires-in-Binary
with_literals-boxed-requires-in-Binary t c = (search (rules, the_lemmas), rw c.get-in-Binary.ensures (whole_pair (names_of c.args.scope.now) c.args.expr.now c.in-Binary.span c.in-Binary.op c.in-Binary.left c.in-Binary.right c.in-Binary.is c.requires).0)

pub with_literals-boxed-requires-in-Binary-2 : goal.with_literals-boxed-requires-in-Binary-2
with_literals-boxed-requires-in-Binary-2 t c = (search (rules, the_lemmas), rw c.get-in-Binary-2.ensures (whole_pair (names_of c.args.scope.now) c.args.expr.now c.in-Binary.span c.in-Binary.op c.in-Binary.left c.in-Binary.right c.in-Binary.is c.requires).1)

pub with_literals-boxed-requires-in-Conditional : goal.with_literals-boxed-requires-in-Conditional
with_literals-boxed-requires-in-Conditional t c = (search (rules, the_lemmas), rw c.get-in-Conditional.ensures (whole_choice (names_of c.args.scope.now) c.args.expr.now c.in-Conditional.span c.in-Conditional.condition c.in-Conditional.yes c.in-Conditional.no c.in-Conditional.is c.requires).0)

pub with_literals-boxed-requires-in-Conditional-2 : goal.with_literals-boxed-requires-in-Conditional-2
with_literals-boxed-requires-in-Conditional-2 t c = (search (rules, the_lemmas), rw c.get-in-Conditional-2.ensures (whole_choice (names_of c.args.scope.now) c.args.expr.now c.in-Conditional.span c.in-Conditional.condition c.in-Conditional.yes c.in-Conditional.no c.in-Conditional.is c.requires).1)

pub with_literals-boxed-requires-in-Conditional-3 : goal.with_literals-boxed-requires-in-Conditional-3
with_literals-boxed-requires-in-Conditional-3 t c = (search (rules, the_lemmas), rw c.get-in-Conditional-3.ensures (whole_choice (names_of c.args.scope.now) c.args.expr.now c.in-Conditional.span c.in-Conditional.condition c.in-Conditional.yes c.in-Conditional.no c.in-Conditional.is c.requires).2)

pub with_literals-with_literals-requires-in-MultipleConcatenation : goal.with_literals-with_literals-requires-in-MultipleConcatenation
with_literals-with_literals-requires-in-MultipleConcatenation t c = (search (rules, the_lemmas), rw c.get-in-MultipleConcatenation.ensures (whole_times (names_of c.args.scope.now) c.args.expr.now c.in-MultipleConcatenation.span c.in-MultipleConcatenation.count c.in-MultipleConcatenation.parts c.in-MultipleConcatenation.is c.requires).times)

pub with_literals-listed-requires-in-MultipleConcatenation : goal.with_literals-listed-requires-in-MultipleConcatenation
with_literals-listed-requires-in-MultipleConcatenation t c = (search (rules, the_lemmas), rw c.as_slice-in-MultipleConcatenation.ensures (whole_times (names_of c.args.scope.now) c.args.expr.now c.in-MultipleConcatenation.span c.in-MultipleConcatenation.count c.in-MultipleConcatenation.parts c.in-MultipleConcatenation.is c.requires).parts)

pub with_literals-listed-requires-in-SystemFunctionCall : goal.with_literals-listed-requires-in-SystemFunctionCall
with_literals-listed-requires-in-SystemFunctionCall t c = (search (rules, the_lemmas), rw c.as_slice-in-SystemFunctionCall.ensures (whole_arguments (names_of c.args.scope.now) c.args.expr.now c.in-SystemFunctionCall.name c.in-SystemFunctionCall.arguments c.in-SystemFunctionCall.is c.requires))

pub listed-with_literals-requires : goal.listed-with_literals-requires
listed-with_literals-requires t c = (search (rules, the_lemmas), element_whole (names_of c.args.scope.now) c.args.exprs.now c.loop-expr.expr-index c.expr-item.result c.expr-item.is (omega arith) c.requires)

pub listed-loop-expr-preserved : goal.listed-loop-expr-preserved
listed-loop-expr-preserved t c = rw (c.in_ok-push.ensures.ok, add-one) (one_more (names_of c.args.scope.now) c.args.exprs.now c.loop-expr.found c.loop-expr.expr-index c.expr-item.result c.in_ok-with_literals.field-0 c.expr-item.is (omega arith) c.loop-expr.invariant c.in_ok-with_literals.ensures)
