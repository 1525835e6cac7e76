use Rattle.vlog_meaning.proofs.Common.{◌++◌, ◌∙◌, sym, ap, arith, add-one, List, take, Expr, natural, names_of, Sense, sense, senses, name_faults, range_faults, sized, counted, all_faults}
use Rattle.vlog_meaning.proofs.Common.{constant_faults, constant_integer, or_else, least}
use Rattle.vlog_meaning.proofs.Firsts.{faults_take}
use Rattle.vlog_meaning.proofs.Refusals.{least_empty, pair_first, not_constant_first}
use Rattle.vlog_meaning.proofs.Steps as step
use Rattle.vlog_meaning.proofs.faults.+fault.Goals as goal

pub fault_in-returns-in-Number : goal.fault_in-returns-in-Number
fault_in-returns-in-Number t c = least_empty ∙ sym (ap (λ (x : Sense). least x.faults) (ap (sense (names_of c.args.scope.now)) c.in-Number.is ∙ step.sense_number (names_of c.args.scope.now) c.in-Number.field-0))

pub fault_in-returns-in-BitSelect : goal.fault_in-returns-in-BitSelect
fault_in-returns-in-BitSelect t c = pair_first (name_faults c.in-BitSelect.name.span ((names_of c.args.scope.now) c.in-BitSelect.name.name)) ((sense (names_of c.args.scope.now) c.in-BitSelect.index).faults) c.name_fault-in-BitSelect.result c.fault_in.result c.earlier.result c.earlier.ensures.earlier (c.name_fault-in-BitSelect.ensures) (c.fault_in.ensures ∙ ap (λ (x : Expr). least (sense (names_of c.args.scope.now) x).faults) c.get.ensures) ∙ sym (ap (λ (x : Sense). least x.faults) (ap (sense (names_of c.args.scope.now)) c.in-BitSelect.is ∙ step.sense_bit_select (names_of c.args.scope.now) c.in-BitSelect.name c.in-BitSelect.field-1 c.in-BitSelect.index))

pub fault_in-range_fault-requires : goal.fault_in-range_fault-requires
fault_in-range_fault-requires t c = rw (c.get-in-PartSelect-3.ensures, c.get-in-PartSelect-4.ensures) (pair_first ((constant_faults (sense (names_of c.args.scope.now) c.in-PartSelect.msb))) ((constant_faults (sense (names_of c.args.scope.now) c.in-PartSelect.lsb))) c.constant_fault.result c.constant_fault-in-PartSelect.result c.earlier-found.result c.earlier-found.ensures.earlier (c.constant_fault.ensures ∙ ap (λ (x : Expr). least (constant_faults (sense (names_of c.args.scope.now) x))) c.get-in-PartSelect.ensures) (c.constant_fault-in-PartSelect.ensures ∙ ap (λ (x : Expr). least (constant_faults (sense (names_of c.args.scope.now) x))) c.get-in-PartSelect-2.ensures))

pub fault_in-returns-in-PartSelect : goal.fault_in-returns-in-PartSelect
fault_in-returns-in-PartSelect t c = pair_first (name_faults c.in-PartSelect.name.span ((names_of c.args.scope.now) c.in-PartSelect.name.name)) (or_else ((constant_faults (sense (names_of c.args.scope.now) c.in-PartSelect.msb)) ++ (constant_faults (sense (names_of c.args.scope.now) c.in-PartSelect.lsb))) (range_faults c.in-PartSelect.span (constant_integer (sense (names_of c.args.scope.now) c.in-PartSelect.msb)) (constant_integer (sense (names_of c.args.scope.now) c.in-PartSelect.lsb)))) c.name_fault-in-PartSelect.result c.range_fault.result c.earlier-in-PartSelect.result c.earlier-in-PartSelect.ensures.earlier (c.name_fault-in-PartSelect.ensures) (rw (c.get-in-PartSelect-3.ensures, c.get-in-PartSelect-4.ensures) at c.range_fault.ensures) ∙ sym (ap (λ (x : Sense). least x.faults) (ap (sense (names_of c.args.scope.now)) c.in-PartSelect.is ∙ step.sense_part_select (names_of c.args.scope.now) c.in-PartSelect.name c.in-PartSelect.span c.in-PartSelect.msb c.in-PartSelect.lsb))

pub fault_in-width_fault-requires : goal.fault_in-width_fault-requires
fault_in-width_fault-requires t c = c.constant_fault-found.ensures ∙ ap (λ (x : Expr). least (constant_faults (sense (names_of c.args.scope.now) x))) c.get-in-IndexedPartSelect.ensures ∙ sym (ap (λ (x : Expr). least (constant_faults (sense (names_of c.args.scope.now) x))) c.get-in-IndexedPartSelect-3.ensures)

pub fault_in-returns-in-IndexedPartSelect : goal.fault_in-returns-in-IndexedPartSelect
fault_in-returns-in-IndexedPartSelect t c = pair_first (name_faults c.in-IndexedPartSelect.name.span ((names_of c.args.scope.now) c.in-IndexedPartSelect.name.name)) ((sense (names_of c.args.scope.now) c.in-IndexedPartSelect.base).faults ++ or_else (constant_faults (sense (names_of c.args.scope.now) c.in-IndexedPartSelect.width)) (sized c.in-IndexedPartSelect.span (natural (constant_integer (sense (names_of c.args.scope.now) c.in-IndexedPartSelect.width))))) c.name_fault-in-IndexedPartSelect.result c.earlier-in-IndexedPartSelect.result c.earlier-in-IndexedPartSelect-2.result c.earlier-in-IndexedPartSelect-2.ensures.earlier (c.name_fault-in-IndexedPartSelect.ensures) (pair_first ((sense (names_of c.args.scope.now) c.in-IndexedPartSelect.base).faults) (or_else (constant_faults (sense (names_of c.args.scope.now) c.in-IndexedPartSelect.width)) (sized c.in-IndexedPartSelect.span (natural (constant_integer (sense (names_of c.args.scope.now) c.in-IndexedPartSelect.width))))) c.fault_in-in-IndexedPartSelect.result c.width_fault.result c.earlier-in-IndexedPartSelect.result c.earlier-in-IndexedPartSelect.ensures.earlier (c.fault_in-in-IndexedPartSelect.ensures ∙ ap (λ (x : Expr). least (sense (names_of c.args.scope.now) x).faults) c.get-in-IndexedPartSelect-2.ensures) (rw c.get-in-IndexedPartSelect-3.ensures at c.width_fault.ensures)) ∙ sym (ap (λ (x : Sense). least x.faults) (ap (sense (names_of c.args.scope.now)) c.in-IndexedPartSelect.is ∙ step.sense_indexed_part_select (names_of c.args.scope.now) c.in-IndexedPartSelect.name c.in-IndexedPartSelect.span c.in-IndexedPartSelect.base c.in-IndexedPartSelect.width))

pub fault_in-returns-in-Parenthesized : goal.fault_in-returns-in-Parenthesized
fault_in-returns-in-Parenthesized t c = c.fault_in-in-Parenthesized.ensures ∙ ap (λ (x : Expr). least (sense (names_of c.args.scope.now) x).faults) c.get-in-Parenthesized.ensures ∙ sym (ap (λ (x : Sense). least x.faults) (ap (sense (names_of c.args.scope.now)) c.in-Parenthesized.is ∙ step.sense_parenthesized (names_of c.args.scope.now) c.in-Parenthesized.field-0 c.in-Parenthesized.inner))

pub fault_in-returns-in-Unary : goal.fault_in-returns-in-Unary
fault_in-returns-in-Unary t c = c.fault_in-in-Unary.ensures ∙ ap (λ (x : Expr). least (sense (names_of c.args.scope.now) x).faults) c.get-in-Unary.ensures ∙ sym (ap (λ (x : Sense). least x.faults) (ap (sense (names_of c.args.scope.now)) c.in-Unary.is ∙ step.sense_unary (names_of c.args.scope.now) c.in-Unary.field-0 c.in-Unary.field-1 c.in-Unary.operand))

pub fault_in-returns-in-Binary : goal.fault_in-returns-in-Binary
fault_in-returns-in-Binary t c = pair_first ((sense (names_of c.args.scope.now) c.in-Binary.left).faults) ((sense (names_of c.args.scope.now) c.in-Binary.right).faults) c.fault_in-in-Binary.result c.fault_in-in-Binary-2.result c.earlier-in-Binary.result c.earlier-in-Binary.ensures.earlier (c.fault_in-in-Binary.ensures ∙ ap (λ (x : Expr). least (sense (names_of c.args.scope.now) x).faults) c.get-in-Binary.ensures) (c.fault_in-in-Binary-2.ensures ∙ ap (λ (x : Expr). least (sense (names_of c.args.scope.now) x).faults) c.get-in-Binary-2.ensures) ∙ sym (ap (λ (x : Sense). least x.faults) (ap (sense (names_of c.args.scope.now)) c.in-Binary.is ∙ step.sense_binary (names_of c.args.scope.now) c.in-Binary.field-0 c.in-Binary.field-1 c.in-Binary.left c.in-Binary.right))

pub fault_in-returns-in-Conditional : goal.fault_in-returns-in-Conditional
fault_in-returns-in-Conditional t c = pair_first ((sense (names_of c.args.scope.now) c.in-Conditional.condition).faults) ((sense (names_of c.args.scope.now) c.in-Conditional.yes).faults ++ (sense (names_of c.args.scope.now) c.in-Conditional.no).faults) c.fault_in-in-Conditional.result c.earlier-in-Conditional.result c.earlier-in-Conditional-2.result c.earlier-in-Conditional-2.ensures.earlier (c.fault_in-in-Conditional.ensures ∙ ap (λ (x : Expr). least (sense (names_of c.args.scope.now) x).faults) c.get-in-Conditional.ensures) (pair_first ((sense (names_of c.args.scope.now) c.in-Conditional.yes).faults) ((sense (names_of c.args.scope.now) c.in-Conditional.no).faults) c.fault_in-in-Conditional-2.result c.fault_in-in-Conditional-3.result c.earlier-in-Conditional.result c.earlier-in-Conditional.ensures.earlier (c.fault_in-in-Conditional-2.ensures ∙ ap (λ (x : Expr). least (sense (names_of c.args.scope.now) x).faults) c.get-in-Conditional-2.ensures) (c.fault_in-in-Conditional-3.ensures ∙ ap (λ (x : Expr). least (sense (names_of c.args.scope.now) x).faults) c.get-in-Conditional-3.ensures)) ∙ sym (ap (λ (x : Sense). least x.faults) (ap (sense (names_of c.args.scope.now)) c.in-Conditional.is ∙ step.sense_conditional (names_of c.args.scope.now) c.in-Conditional.field-0 c.in-Conditional.condition c.in-Conditional.yes c.in-Conditional.no))

pub fault_in-concatenation_fault-requires : goal.fault_in-concatenation_fault-requires
fault_in-concatenation_fault-requires t c = c.fault_in_all-found.ensures ∙ ap (λ (x : List Expr). least (all_faults (senses (names_of c.args.scope.now) x))) c.as_slice.ensures ∙ sym (ap (λ (x : List Expr). least (all_faults (senses (names_of c.args.scope.now) x))) c.as_slice-in-Concatenation.ensures)

pub fault_in-returns-in-Concatenation : goal.fault_in-returns-in-Concatenation
fault_in-returns-in-Concatenation t c = (rw c.as_slice-in-Concatenation.ensures at c.concatenation_fault.ensures) ∙ sym (ap (λ (x : Sense). least x.faults) (ap (sense (names_of c.args.scope.now)) c.in-Concatenation.is ∙ step.sense_concatenation (names_of c.args.scope.now) c.in-Concatenation.span c.in-Concatenation.parts))

pub fault_in-count_fault-requires : goal.fault_in-count_fault-requires
fault_in-count_fault-requires t c = c.constant_fault-count.ensures ∙ ap (λ (x : Expr). least (constant_faults (sense (names_of c.args.scope.now) x))) c.get-in-MultipleConcatenation.ensures ∙ sym (ap (λ (x : Expr). least (constant_faults (sense (names_of c.args.scope.now) x))) c.get-in-MultipleConcatenation-2.ensures)

pub fault_in-replication_fault-requires : goal.fault_in-replication_fault-requires
fault_in-replication_fault-requires t c = rw (c.get-in-MultipleConcatenation-3.ensures, c.as_slice-in-MultipleConcatenation-2.ensures) (pair_first (or_else (constant_faults (sense (names_of c.args.scope.now) c.in-MultipleConcatenation.times)) (counted c.in-MultipleConcatenation.span (natural (constant_integer (sense (names_of c.args.scope.now) c.in-MultipleConcatenation.times))))) (all_faults (senses (names_of c.args.scope.now) c.in-MultipleConcatenation.parts)) c.count_fault.result c.fault_in_all.result c.earlier-found-in-MultipleConcatenation.result c.earlier-found-in-MultipleConcatenation.ensures.earlier (rw c.get-in-MultipleConcatenation-2.ensures at c.count_fault.ensures) (c.fault_in_all.ensures ∙ ap (λ (x : List Expr). least (all_faults (senses (names_of c.args.scope.now) x))) c.as_slice-in-MultipleConcatenation.ensures))

pub fault_in-returns-in-MultipleConcatenation : goal.fault_in-returns-in-MultipleConcatenation
fault_in-returns-in-MultipleConcatenation t c = (rw (c.get-in-MultipleConcatenation-3.ensures, c.as_slice-in-MultipleConcatenation-2.ensures) at c.replication_fault.ensures) ∙ sym (ap (λ (x : Sense). least x.faults) (ap (sense (names_of c.args.scope.now)) c.in-MultipleConcatenation.is ∙ step.sense_multiple_concatenation (names_of c.args.scope.now) c.in-MultipleConcatenation.span c.in-MultipleConcatenation.times c.in-MultipleConcatenation.parts))

pub fault_in-returns-in-SystemFunctionCall : goal.fault_in-returns-in-SystemFunctionCall
fault_in-returns-in-SystemFunctionCall t c = (rw (c.function_of.ensures, c.as_str.ensures, c.as_slice-in-SystemFunctionCall.ensures) at c.fault_in_call.ensures) ∙ sym (ap (λ (x : Sense). least x.faults) (ap (sense (names_of c.args.scope.now)) c.in-SystemFunctionCall.is ∙ step.sense_system_function_call (names_of c.args.scope.now) c.in-SystemFunctionCall.name c.in-SystemFunctionCall.arguments))

pub constant_fault-division_fault-requires : goal.constant_fault-division_fault-requires
constant_fault-division_fault-requires t c = not_constant_first (sense (names_of c.args.scope.now) c.args.expr.now) c.signal_in.result c.fault_in.result c.earlier-found.result c.earlier-found.ensures.earlier c.signal_in.ensures c.fault_in.ensures

pub fault_in_all-loop-expr-init : goal.fault_in_all-loop-expr-init
fault_in_all-loop-expr-init t c = least_empty

pub fault_in_all-loop-expr-preserved : goal.fault_in_all-loop-expr-preserved
fault_in_all-loop-expr-preserved t c = let more = faults_take (names_of c.args.scope.now) c.args.exprs.now c.loop-expr.expr-index c.expr-item.result c.expr-item.is (omega arith) in rw (add-one, more) (pair_first (all_faults (senses (names_of c.args.scope.now) (take c.loop-expr.expr-index c.args.exprs.now))) (sense (names_of c.args.scope.now) c.expr-item.result).faults c.loop-expr.found c.fault_in.result c.earlier-found.result c.earlier-found.ensures.earlier c.loop-expr.invariant c.fault_in.ensures)
