use Rattle.tb_checks.proofs.Common.{◌++◌, refl, ap, ◌∙◌, take, add-one, arith, names_of, sense, senses, index_features, binary_features, all_features, least_empty, pair_first}
use Rattle.vlog_meaning.proofs.Steps as step
use Rattle.tb_checks.proofs.Featured.{none_features, one_features, two_features, features_take}
use Rattle.tb_checks.proofs.features.+feature.Goals as goal

pub feature_in-returns-in-Number : goal.feature_in-returns-in-Number
feature_in-returns-in-Number t c = none_features (names_of c.args.scope.now) c.args.expr.now _ (ap (sense (names_of c.args.scope.now)) c.in-Number.is ∙ step.sense_number (names_of c.args.scope.now) c.in-Number.field-0) refl

pub feature_in-returns-in-Name : goal.feature_in-returns-in-Name
feature_in-returns-in-Name t c = none_features (names_of c.args.scope.now) c.args.expr.now _ (ap (sense (names_of c.args.scope.now)) c.in-Name.is ∙ step.sense_name (names_of c.args.scope.now) c.in-Name.field-0) refl

pub feature_in-returns-in-PartSelect : goal.feature_in-returns-in-PartSelect
feature_in-returns-in-PartSelect t c = none_features (names_of c.args.scope.now) c.args.expr.now _ (ap (sense (names_of c.args.scope.now)) c.in-PartSelect.is ∙ step.sense_part_select (names_of c.args.scope.now) c.in-PartSelect.field-0 c.in-PartSelect.field-1 c.in-PartSelect.field-2 c.in-PartSelect.field-3) refl

pub feature_in-returns-in-BitSelect : goal.feature_in-returns-in-BitSelect
feature_in-returns-in-BitSelect t c = two_features (names_of c.args.scope.now) c.args.expr.now (index_features c.in-BitSelect.span ((names_of c.args.scope.now) c.in-BitSelect.name.name) (sense (names_of c.args.scope.now) c.in-BitSelect.index)) (sense (names_of c.args.scope.now) c.in-BitSelect.index).features _ c.earlier.result c.index_unsupported.result c.feature_in.result (ap (sense (names_of c.args.scope.now)) c.in-BitSelect.is ∙ step.sense_bit_select (names_of c.args.scope.now) c.in-BitSelect.name c.in-BitSelect.span c.in-BitSelect.index) refl c.earlier.ensures.earlier (rw c.get.ensures at c.index_unsupported.ensures) (rw c.get-in-BitSelect.ensures at c.feature_in.ensures)

pub feature_in-returns-in-IndexedPartSelect : goal.feature_in-returns-in-IndexedPartSelect
feature_in-returns-in-IndexedPartSelect t c = two_features (names_of c.args.scope.now) c.args.expr.now (index_features c.in-IndexedPartSelect.span ((names_of c.args.scope.now) c.in-IndexedPartSelect.name.name) (sense (names_of c.args.scope.now) c.in-IndexedPartSelect.base)) (sense (names_of c.args.scope.now) c.in-IndexedPartSelect.base).features _ c.earlier-in-IndexedPartSelect.result c.index_unsupported-in-IndexedPartSelect.result c.feature_in-in-IndexedPartSelect.result (ap (sense (names_of c.args.scope.now)) c.in-IndexedPartSelect.is ∙ step.sense_indexed_part_select (names_of c.args.scope.now) c.in-IndexedPartSelect.name c.in-IndexedPartSelect.span c.in-IndexedPartSelect.base c.in-IndexedPartSelect.field-3) refl c.earlier-in-IndexedPartSelect.ensures.earlier (rw c.get-in-IndexedPartSelect.ensures at c.index_unsupported-in-IndexedPartSelect.ensures) (rw c.get-in-IndexedPartSelect-2.ensures at c.feature_in-in-IndexedPartSelect.ensures)

pub feature_in-returns-in-Binary : goal.feature_in-returns-in-Binary
feature_in-returns-in-Binary t c = two_features (names_of c.args.scope.now) c.args.expr.now (binary_features c.in-Binary.span c.in-Binary.op (sense (names_of c.args.scope.now) c.in-Binary.left) (sense (names_of c.args.scope.now) c.in-Binary.right)) ((sense (names_of c.args.scope.now) c.in-Binary.left).features ++ (sense (names_of c.args.scope.now) c.in-Binary.right).features) _ c.earlier-in-Binary-2.result c.division_unsupported.result c.earlier-in-Binary.result (ap (sense (names_of c.args.scope.now)) c.in-Binary.is ∙ step.sense_binary (names_of c.args.scope.now) c.in-Binary.span c.in-Binary.op c.in-Binary.left c.in-Binary.right) refl c.earlier-in-Binary-2.ensures.earlier (rw (c.get-in-Binary.ensures, c.get-in-Binary-2.ensures) at c.division_unsupported.ensures) (pair_first (sense (names_of c.args.scope.now) c.in-Binary.left).features (sense (names_of c.args.scope.now) c.in-Binary.right).features c.feature_in-in-Binary.result c.feature_in-in-Binary-2.result c.earlier-in-Binary.result c.earlier-in-Binary.ensures.earlier (rw c.get-in-Binary-3.ensures at c.feature_in-in-Binary.ensures) (rw c.get-in-Binary-4.ensures at c.feature_in-in-Binary-2.ensures))

pub feature_in-returns-in-Conditional : goal.feature_in-returns-in-Conditional
feature_in-returns-in-Conditional t c = two_features (names_of c.args.scope.now) c.args.expr.now (sense (names_of c.args.scope.now) c.in-Conditional.condition).features ((sense (names_of c.args.scope.now) c.in-Conditional.yes).features ++ (sense (names_of c.args.scope.now) c.in-Conditional.no).features) _ c.earlier-in-Conditional-2.result c.feature_in-in-Conditional.result c.earlier-in-Conditional.result (ap (sense (names_of c.args.scope.now)) c.in-Conditional.is ∙ step.sense_conditional (names_of c.args.scope.now) c.in-Conditional.field-0 c.in-Conditional.condition c.in-Conditional.yes c.in-Conditional.no) refl c.earlier-in-Conditional-2.ensures.earlier (rw c.get-in-Conditional.ensures at c.feature_in-in-Conditional.ensures) (pair_first (sense (names_of c.args.scope.now) c.in-Conditional.yes).features (sense (names_of c.args.scope.now) c.in-Conditional.no).features c.feature_in-in-Conditional-2.result c.feature_in-in-Conditional-3.result c.earlier-in-Conditional.result c.earlier-in-Conditional.ensures.earlier (rw c.get-in-Conditional-2.ensures at c.feature_in-in-Conditional-2.ensures) (rw c.get-in-Conditional-3.ensures at c.feature_in-in-Conditional-3.ensures))

pub feature_in-returns-in-MultipleConcatenation : goal.feature_in-returns-in-MultipleConcatenation
feature_in-returns-in-MultipleConcatenation t c = one_features (names_of c.args.scope.now) c.args.expr.now _ (all_features (senses (names_of c.args.scope.now) c.in-MultipleConcatenation.parts)) c.feature_in_all-in-MultipleConcatenation.result (ap (sense (names_of c.args.scope.now)) c.in-MultipleConcatenation.is ∙ step.sense_multiple_concatenation (names_of c.args.scope.now) c.in-MultipleConcatenation.field-0 c.in-MultipleConcatenation.field-1 c.in-MultipleConcatenation.parts) refl (rw c.as_slice-in-MultipleConcatenation.ensures at c.feature_in_all-in-MultipleConcatenation.ensures)

pub feature_in-returns-in-SystemFunctionCall : goal.feature_in-returns-in-SystemFunctionCall
feature_in-returns-in-SystemFunctionCall t c = one_features (names_of c.args.scope.now) c.args.expr.now _ (all_features (senses (names_of c.args.scope.now) c.in-SystemFunctionCall.arguments)) c.feature_in_all-in-SystemFunctionCall.result (ap (sense (names_of c.args.scope.now)) c.in-SystemFunctionCall.is ∙ step.sense_system_function_call (names_of c.args.scope.now) c.in-SystemFunctionCall.field-0 c.in-SystemFunctionCall.arguments) refl (rw c.as_slice-in-SystemFunctionCall.ensures at c.feature_in_all-in-SystemFunctionCall.ensures)

pub feature_in_all-loop-expr-init : goal.feature_in_all-loop-expr-init
feature_in_all-loop-expr-init t c = least_empty

pub feature_in_all-loop-expr-preserved : goal.feature_in_all-loop-expr-preserved
feature_in_all-loop-expr-preserved t c =
    let more = features_take (names_of c.args.scope.now) c.args.exprs.now c.loop-expr.expr-index c.expr-item.result c.expr-item.is (omega arith) in
    rw (add-one, more) (pair_first (all_features (senses (names_of c.args.scope.now) (take c.loop-expr.expr-index c.args.exprs.now))) (sense (names_of c.args.scope.now) c.expr-item.result).features c.loop-expr.found c.feature_in.result c.earlier-found.result c.earlier-found.ensures.earlier c.loop-expr.invariant c.feature_in.ensures)
