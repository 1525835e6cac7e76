use Rattle.vlog_meaning.proofs.Common.{◌++◌, ◌∙◌, sym, ap, arith, add-one, List, take, Expr, function_of, names_of, Sense, sense, senses, name_signals, call_signals, all_signals, least}
use Rattle.vlog_meaning.proofs.Firsts.{signals_take}
use Rattle.vlog_meaning.proofs.Refusals.{least_empty, pair_first}
use Rattle.vlog_meaning.proofs.Steps as step
use Rattle.vlog_meaning.proofs.signals.+signal.Goals as goal

pub signal_in-returns-in-Number : goal.signal_in-returns-in-Number
signal_in-returns-in-Number t c = least_empty ∙ sym (ap (λ (x : Sense). least x.signals) (ap (sense (names_of c.args.scope.now)) c.in-Number.is ∙ step.sense_number (names_of c.args.scope.now) c.in-Number.field-0))

pub signal_in-returns-in-BitSelect : goal.signal_in-returns-in-BitSelect
signal_in-returns-in-BitSelect t c = pair_first (name_signals c.in-BitSelect.name.span ((names_of c.args.scope.now) c.in-BitSelect.name.name)) (sense (names_of c.args.scope.now) c.in-BitSelect.index).signals c.name_signal-in-BitSelect.result c.signal_in.result c.earlier.result c.earlier.ensures.earlier c.name_signal-in-BitSelect.ensures (c.signal_in.ensures ∙ ap (λ (x : Expr). least (sense (names_of c.args.scope.now) x).signals) c.get.ensures) ∙ sym (ap (λ (x : Sense). least x.signals) (ap (sense (names_of c.args.scope.now)) c.in-BitSelect.is ∙ step.sense_bit_select (names_of c.args.scope.now) c.in-BitSelect.name c.in-BitSelect.field-1 c.in-BitSelect.index))

pub signal_in-returns-in-Binary : goal.signal_in-returns-in-Binary
signal_in-returns-in-Binary t c = pair_first (sense (names_of c.args.scope.now) c.in-Binary.left).signals (sense (names_of c.args.scope.now) c.in-Binary.right).signals c.signal_in-in-Binary.result c.signal_in-in-Binary-2.result c.earlier-in-Binary.result c.earlier-in-Binary.ensures.earlier (c.signal_in-in-Binary.ensures ∙ ap (λ (x : Expr). least (sense (names_of c.args.scope.now) x).signals) c.get-in-Binary.ensures) (c.signal_in-in-Binary-2.ensures ∙ ap (λ (x : Expr). least (sense (names_of c.args.scope.now) x).signals) c.get-in-Binary-2.ensures) ∙ sym (ap (λ (x : Sense). least x.signals) (ap (sense (names_of c.args.scope.now)) c.in-Binary.is ∙ step.sense_binary (names_of c.args.scope.now) c.in-Binary.field-0 c.in-Binary.field-1 c.in-Binary.left c.in-Binary.right))

pub signal_in-returns-in-Conditional : goal.signal_in-returns-in-Conditional
signal_in-returns-in-Conditional t c = pair_first (sense (names_of c.args.scope.now) c.in-Conditional.condition).signals ((sense (names_of c.args.scope.now) c.in-Conditional.yes).signals ++ (sense (names_of c.args.scope.now) c.in-Conditional.no).signals) c.signal_in-in-Conditional.result c.earlier-in-Conditional.result c.earlier-in-Conditional-2.result c.earlier-in-Conditional-2.ensures.earlier (c.signal_in-in-Conditional.ensures ∙ ap (λ (x : Expr). least (sense (names_of c.args.scope.now) x).signals) c.get-in-Conditional.ensures) (pair_first (sense (names_of c.args.scope.now) c.in-Conditional.yes).signals (sense (names_of c.args.scope.now) c.in-Conditional.no).signals c.signal_in-in-Conditional-2.result c.signal_in-in-Conditional-3.result c.earlier-in-Conditional.result c.earlier-in-Conditional.ensures.earlier (c.signal_in-in-Conditional-2.ensures ∙ ap (λ (x : Expr). least (sense (names_of c.args.scope.now) x).signals) c.get-in-Conditional-2.ensures) (c.signal_in-in-Conditional-3.ensures ∙ ap (λ (x : Expr). least (sense (names_of c.args.scope.now) x).signals) c.get-in-Conditional-3.ensures)) ∙ sym (ap (λ (x : Sense). least x.signals) (ap (sense (names_of c.args.scope.now)) c.in-Conditional.is ∙ step.sense_conditional (names_of c.args.scope.now) c.in-Conditional.field-0 c.in-Conditional.condition c.in-Conditional.yes c.in-Conditional.no))

pub signal_in-returns-in-PartSelect : goal.signal_in-returns-in-PartSelect
signal_in-returns-in-PartSelect t c = pair_first (name_signals c.in-PartSelect.name.span ((names_of c.args.scope.now) c.in-PartSelect.name.name)) ((sense (names_of c.args.scope.now) c.in-PartSelect.msb).signals ++ (sense (names_of c.args.scope.now) c.in-PartSelect.lsb).signals) c.name_signal-in-PartSelect.result c.earlier-in-PartSelect.result c.earlier-in-PartSelect-2.result c.earlier-in-PartSelect-2.ensures.earlier c.name_signal-in-PartSelect.ensures (pair_first (sense (names_of c.args.scope.now) c.in-PartSelect.msb).signals (sense (names_of c.args.scope.now) c.in-PartSelect.lsb).signals c.signal_in-in-PartSelect.result c.signal_in-in-PartSelect-2.result c.earlier-in-PartSelect.result c.earlier-in-PartSelect.ensures.earlier (c.signal_in-in-PartSelect.ensures ∙ ap (λ (x : Expr). least (sense (names_of c.args.scope.now) x).signals) c.get-in-PartSelect.ensures) (c.signal_in-in-PartSelect-2.ensures ∙ ap (λ (x : Expr). least (sense (names_of c.args.scope.now) x).signals) c.get-in-PartSelect-2.ensures)) ∙ sym (ap (λ (x : Sense). least x.signals) (ap (sense (names_of c.args.scope.now)) c.in-PartSelect.is ∙ step.sense_part_select (names_of c.args.scope.now) c.in-PartSelect.name c.in-PartSelect.field-1 c.in-PartSelect.msb c.in-PartSelect.lsb))

pub signal_in-returns-in-IndexedPartSelect : goal.signal_in-returns-in-IndexedPartSelect
signal_in-returns-in-IndexedPartSelect t c = pair_first (name_signals c.in-IndexedPartSelect.name.span ((names_of c.args.scope.now) c.in-IndexedPartSelect.name.name)) ((sense (names_of c.args.scope.now) c.in-IndexedPartSelect.base).signals ++ (sense (names_of c.args.scope.now) c.in-IndexedPartSelect.width).signals) c.name_signal-in-IndexedPartSelect.result c.earlier-in-IndexedPartSelect.result c.earlier-in-IndexedPartSelect-2.result c.earlier-in-IndexedPartSelect-2.ensures.earlier c.name_signal-in-IndexedPartSelect.ensures (pair_first (sense (names_of c.args.scope.now) c.in-IndexedPartSelect.base).signals (sense (names_of c.args.scope.now) c.in-IndexedPartSelect.width).signals c.signal_in-in-IndexedPartSelect.result c.signal_in-in-IndexedPartSelect-2.result c.earlier-in-IndexedPartSelect.result c.earlier-in-IndexedPartSelect.ensures.earlier (c.signal_in-in-IndexedPartSelect.ensures ∙ ap (λ (x : Expr). least (sense (names_of c.args.scope.now) x).signals) c.get-in-IndexedPartSelect.ensures) (c.signal_in-in-IndexedPartSelect-2.ensures ∙ ap (λ (x : Expr). least (sense (names_of c.args.scope.now) x).signals) c.get-in-IndexedPartSelect-2.ensures)) ∙ sym (ap (λ (x : Sense). least x.signals) (ap (sense (names_of c.args.scope.now)) c.in-IndexedPartSelect.is ∙ step.sense_indexed_part_select (names_of c.args.scope.now) c.in-IndexedPartSelect.name c.in-IndexedPartSelect.field-1 c.in-IndexedPartSelect.base c.in-IndexedPartSelect.width))

pub signal_in-returns-in-MultipleConcatenation : goal.signal_in-returns-in-MultipleConcatenation
signal_in-returns-in-MultipleConcatenation t c = pair_first (sense (names_of c.args.scope.now) c.in-MultipleConcatenation.times).signals (all_signals (senses (names_of c.args.scope.now) c.in-MultipleConcatenation.parts)) c.signal_in-in-MultipleConcatenation.result c.signal_in_all-in-MultipleConcatenation.result c.earlier-in-MultipleConcatenation.result c.earlier-in-MultipleConcatenation.ensures.earlier (c.signal_in-in-MultipleConcatenation.ensures ∙ ap (λ (x : Expr). least (sense (names_of c.args.scope.now) x).signals) c.get-in-MultipleConcatenation.ensures) (c.signal_in_all-in-MultipleConcatenation.ensures ∙ ap (λ (x : List Expr). least (all_signals (senses (names_of c.args.scope.now) x))) c.as_slice-in-MultipleConcatenation.ensures) ∙ sym (ap (λ (x : Sense). least x.signals) (ap (sense (names_of c.args.scope.now)) c.in-MultipleConcatenation.is ∙ step.sense_multiple_concatenation (names_of c.args.scope.now) c.in-MultipleConcatenation.field-0 c.in-MultipleConcatenation.times c.in-MultipleConcatenation.parts))

pub signal_in-returns-in-SystemFunctionCall : goal.signal_in-returns-in-SystemFunctionCall
signal_in-returns-in-SystemFunctionCall t c = pair_first (call_signals (function_of c.in-SystemFunctionCall.name.name) c.in-SystemFunctionCall.name.span) (all_signals (senses (names_of c.args.scope.now) c.in-SystemFunctionCall.arguments)) c.call_signal.result c.signal_in_all-in-SystemFunctionCall.result c.earlier-in-SystemFunctionCall.result c.earlier-in-SystemFunctionCall.ensures.earlier c.call_signal.ensures (c.signal_in_all-in-SystemFunctionCall.ensures ∙ ap (λ (x : List Expr). least (all_signals (senses (names_of c.args.scope.now) x))) c.as_slice-in-SystemFunctionCall.ensures) ∙ sym (ap (λ (x : Sense). least x.signals) (ap (sense (names_of c.args.scope.now)) c.in-SystemFunctionCall.is ∙ step.sense_system_function_call (names_of c.args.scope.now) c.in-SystemFunctionCall.name c.in-SystemFunctionCall.arguments))

pub signal_in_all-loop-expr-init : goal.signal_in_all-loop-expr-init
signal_in_all-loop-expr-init t c = least_empty

pub signal_in_all-loop-expr-preserved : goal.signal_in_all-loop-expr-preserved
signal_in_all-loop-expr-preserved t c = let more = signals_take (names_of c.args.scope.now) c.args.exprs.now c.loop-expr.expr-index c.expr-item.result c.expr-item.is (omega arith) in rw (add-one, more) (pair_first (all_signals (senses (names_of c.args.scope.now) (take c.loop-expr.expr-index c.args.exprs.now))) (sense (names_of c.args.scope.now) c.expr-item.result).signals c.loop-expr.found c.signal_in.result c.earlier-found.result c.earlier-found.ensures.earlier c.loop-expr.invariant c.signal_in.ensures)
