use Rattle.flat_assigns.proofs.Common.{◌≡◌, ℕ, [], sym, ap, ◌∙◌, subst, arith, names_of, flat_map, parts_of, slices_of, slices, target_faults, right_refusals, List, ◌++◌, Slice}
use Rattle.flat_assigns.proofs.Refusals.{faults_at, form_accepted, nothing_refused, places_fit, right_accepted, width_is}
use Rattle.flat_assigns.proofs.assign.build_assign.Goals as goal

pub shape_of-to-requires-in-None : goal.shape_of-to-requires-in-None
shape_of-to-requires-in-None c =
    let lefts = names_of c.args.left_scope.now in
    let rights = names_of c.args.right_scope.now in
    let is = faults_at lefts c.args.left.now rights c.args.right.now c.in_ok-form.form c.sides_fault-wrong.result c.in_ok-form.ensures (c.sides_fault-wrong.ensures (flat_map (target_faults lefts) (parts_of c.args.left.now)) c.in_ok-target.ensures.first) in
    let free = nothing_refused lefts c.args.left.now rights c.args.right.now c.sides_fault-wrong.result c.in_ok-second_writer.field-0 c.first_refusal.result c.args.builder.now c.args.inputs.now (slices_of c.deref.result.now) is c.in_ok-second_writer.ensures c.first_refusal.ensures c.in-None.is in
    form_accepted lefts c.args.left.now rights c.args.right.now c.in_ok-form.form c.in_ok-form.ensures free

pub build_parts-requires-clause-enough : goal.build_parts-requires-clause-enough
build_parts-requires-clause-enough c =
    let lefts = names_of c.args.left_scope.now in
    let rights = names_of c.args.right_scope.now in
    let is = faults_at lefts c.args.left.now rights c.args.right.now c.in_ok-form.form c.sides_fault-wrong.result c.in_ok-form.ensures (c.sides_fault-wrong.ensures (flat_map (target_faults lefts) (parts_of c.args.left.now)) c.in_ok-target.ensures.first) in
    let free = nothing_refused lefts c.args.left.now rights c.args.right.now c.sides_fault-wrong.result c.in_ok-second_writer.field-0 c.first_refusal.result c.args.builder.now c.args.inputs.now (slices_of c.deref.result.now) is c.in_ok-second_writer.ensures c.first_refusal.ensures c.in-None.is in
    let none : slices_of c.new-slices.result.items ≡ [] = ap slices_of c.new-slices.ensures.items in
    let all : slices_of c.deref-in-None.result.now ≡ slices lefts (parts_of c.args.left.now) = ap slices_of c.deref-in-None.ensures.value ∙ c.in_ok-target.ensures.slices ∙ ap (λ (l : List Slice). l ++ slices lefts (parts_of c.args.left.now)) none in
    let fit = places_fit lefts c.args.left.now rights c.args.right.now c.in_ok-form.form c.shape_of-to.result (slices_of c.deref-in-None.result.now) c.in_ok-form.ensures c.shape_of-to.ensures.shape all free in
    omega (arith, fit)

pub build_parts-requires-clause-accepted : goal.build_parts-requires-clause-accepted
build_parts-requires-clause-accepted c =
    let lefts = names_of c.args.left_scope.now in
    let rights = names_of c.args.right_scope.now in
    let is = faults_at lefts c.args.left.now rights c.args.right.now c.in_ok-form.form c.sides_fault-wrong.result c.in_ok-form.ensures (c.sides_fault-wrong.ensures (flat_map (target_faults lefts) (parts_of c.args.left.now)) c.in_ok-target.ensures.first) in
    let free = nothing_refused lefts c.args.left.now rights c.args.right.now c.sides_fault-wrong.result c.in_ok-second_writer.field-0 c.first_refusal.result c.args.builder.now c.args.inputs.now (slices_of c.deref.result.now) is c.in_ok-second_writer.ensures c.first_refusal.ensures c.in-None.is in
    subst (λ (n : ℕ). right_refusals rights c.args.right.now n ≡ []) (sym (width_is lefts c.args.left.now c.in_ok-form.form c.shape_of-to.result c.in_ok-form.ensures c.shape_of-to.ensures.shape)) (right_accepted lefts c.args.left.now rights c.args.right.now free)
