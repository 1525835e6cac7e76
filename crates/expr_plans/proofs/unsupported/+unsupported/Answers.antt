use Rattle.expr_plans.proofs.Common.{refl, ap, ◌∙◌, take, add-one, arith, names_of, index_features, least_empty, pair_first, Plan, plan, plans, all_unsupported, base_features}
use Rattle.expr_plans.proofs.Plans.{none_unsupported, index_unsupported, pair_unsupported, plans_take, plan_number, plan_name, plan_part_select, plan_bit_select, plan_indexed_part_select}
use Rattle.expr_plans.proofs.unsupported.+unsupported.Goals as goal

pub unsupported_in-returns-in-Number : goal.unsupported_in-returns-in-Number
unsupported_in-returns-in-Number t c = none_unsupported (names_of c.args.scope.now) c.args.expr.now _ (ap (plan (names_of c.args.scope.now)) c.in-Number.is ∙ plan_number (names_of c.args.scope.now) c.in-Number.field-0) refl

pub unsupported_in-returns-in-Name : goal.unsupported_in-returns-in-Name
unsupported_in-returns-in-Name t c = none_unsupported (names_of c.args.scope.now) c.args.expr.now _ (ap (plan (names_of c.args.scope.now)) c.in-Name.is ∙ plan_name (names_of c.args.scope.now) c.in-Name.field-0) refl

pub unsupported_in-returns-in-PartSelect : goal.unsupported_in-returns-in-PartSelect
unsupported_in-returns-in-PartSelect t c = none_unsupported (names_of c.args.scope.now) c.args.expr.now _ (ap (plan (names_of c.args.scope.now)) c.in-PartSelect.is ∙ plan_part_select (names_of c.args.scope.now) c.in-PartSelect.field-0 c.in-PartSelect.field-1 c.in-PartSelect.field-2 c.in-PartSelect.field-3) refl

pub unsupported_in-returns-in-BitSelect : goal.unsupported_in-returns-in-BitSelect
unsupported_in-returns-in-BitSelect t c = index_unsupported (names_of c.args.scope.now) (index_features c.in-BitSelect.span (names_of c.args.scope.now c.in-BitSelect.name.name)) c.args.expr.now c.in-BitSelect.index c.earlier.result c.index_unsupported.result c.unsupported_in.result (ap (λ (p : Plan). p.unsupported) (ap (plan (names_of c.args.scope.now)) c.in-BitSelect.is ∙ plan_bit_select (names_of c.args.scope.now) c.in-BitSelect.name c.in-BitSelect.span c.in-BitSelect.index)) c.earlier.ensures.earlier (rw c.get.ensures at c.index_unsupported.ensures) (rw c.get-in-BitSelect.ensures at c.unsupported_in.ensures)

pub unsupported_in-returns-in-IndexedPartSelect : goal.unsupported_in-returns-in-IndexedPartSelect
unsupported_in-returns-in-IndexedPartSelect t c = index_unsupported (names_of c.args.scope.now) (base_features c.in-IndexedPartSelect.span (names_of c.args.scope.now c.in-IndexedPartSelect.name.name)) c.args.expr.now c.in-IndexedPartSelect.base c.earlier-in-IndexedPartSelect.result c.base_unsupported.result c.unsupported_in-in-IndexedPartSelect.result (ap (λ (p : Plan). p.unsupported) (ap (plan (names_of c.args.scope.now)) c.in-IndexedPartSelect.is ∙ plan_indexed_part_select (names_of c.args.scope.now) c.in-IndexedPartSelect.name c.in-IndexedPartSelect.span c.in-IndexedPartSelect.base c.in-IndexedPartSelect.field-3)) c.earlier-in-IndexedPartSelect.ensures.earlier (rw c.get-in-IndexedPartSelect.ensures at c.base_unsupported.ensures) (rw c.get-in-IndexedPartSelect-2.ensures at c.unsupported_in-in-IndexedPartSelect.ensures)

pub unsupported_in-returns-in-Binary : goal.unsupported_in-returns-in-Binary
unsupported_in-returns-in-Binary t c = pair_unsupported (names_of c.args.scope.now) c.in-Binary.span c.in-Binary.op c.args.expr.now c.in-Binary.left c.in-Binary.right c.earlier-in-Binary-2.result c.division_unsupported.result c.earlier-in-Binary.result c.unsupported_in-in-Binary.result c.unsupported_in-in-Binary-2.result c.in-Binary.is c.earlier-in-Binary-2.ensures.earlier c.earlier-in-Binary.ensures.earlier (rw (c.get-in-Binary.ensures, c.get-in-Binary-2.ensures) at c.division_unsupported.ensures) (rw c.get-in-Binary-3.ensures at c.unsupported_in-in-Binary.ensures) (rw c.get-in-Binary-4.ensures at c.unsupported_in-in-Binary-2.ensures)

pub unsupported_in_all-loop-expr-init : goal.unsupported_in_all-loop-expr-init
unsupported_in_all-loop-expr-init t c = least_empty

pub unsupported_in_all-loop-expr-preserved : goal.unsupported_in_all-loop-expr-preserved
unsupported_in_all-loop-expr-preserved t c =
    let more = plans_take (names_of c.args.scope.now) c.args.exprs.now c.loop-expr.expr-index c.expr-item.result c.expr-item.is (omega arith) in
    rw (add-one, more) (pair_first (all_unsupported (plans (names_of c.args.scope.now) (take c.loop-expr.expr-index c.args.exprs.now))) (plan (names_of c.args.scope.now) c.expr-item.result).unsupported c.loop-expr.found c.unsupported_in.result c.earlier-found.result c.earlier-found.ensures.earlier c.loop-expr.invariant c.unsupported_in.ensures)
