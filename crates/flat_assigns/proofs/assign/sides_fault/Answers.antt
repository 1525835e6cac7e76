use Rattle.flat_assigns.proofs.Common.{◌∙◌, ap, Shape, least, names_of, sense, left_nil, wrong, divisions, right_shape}
use Rattle.flat_assigns.proofs.Refusals.{form_free, right_free, sides_right, sides_wrong}
use Rattle.flat_assigns.proofs.assign.sides_fault.Goals as goal

pub shape_of-to-requires-in-None : goal.shape_of-to-requires-in-None
shape_of-to-requires-in-None c =
    form_free (sense (names_of c.args.left_scope.now) c.args.form.now).faults c.fault_in.result c.args.target c.earlier-left.result c.wrong_in.result c.earlier.result c.fault_in.ensures c.earlier-left.ensures.earlier c.earlier.ensures.earlier c.in-None.is

pub right_shape-context-requires-clause-whole : goal.right_shape-context-requires-clause-whole
right_shape-context-requires-clause-whole c =
    left_nil _ _ (right_free (wrong (names_of c.args.right_scope.now) c.args.right.now) c.earlier-left.result c.wrong_in.result c.earlier.result c.wrong_in.ensures c.earlier.ensures.earlier c.in-None.is)

pub zero_in-requires-clause-whole : goal.zero_in-requires-clause-whole
zero_in-requires-clause-whole c =
    left_nil _ _ (right_free (wrong (names_of c.args.right_scope.now) c.args.right.now) c.earlier-left.result c.wrong_in.result c.earlier.result c.wrong_in.ensures c.earlier.ensures.earlier c.in-None.is)

pub returns-in-Some : goal.returns-in-Some
returns-in-Some c = λ targets told.
    let lefts = names_of c.args.left_scope.now in
    let rights = names_of c.args.right_scope.now in
    let zeros = divisions ((sense rights c.args.right.now).zeros (right_shape rights c.args.right.now (sense lefts c.args.form.now).shape.width)) in
    sides_wrong (sense lefts c.args.form.now).faults targets (wrong rights c.args.right.now) zeros c.fault_in.result c.args.target c.earlier-left.result c.wrong_in.result c.earlier.result c.in-Some.fault c.fault_in.ensures told c.earlier-left.ensures.earlier c.wrong_in.ensures c.earlier.ensures.earlier c.in-Some.is

pub returns-in-None : goal.returns-in-None
returns-in-None c = λ targets told.
    let lefts = names_of c.args.left_scope.now in
    let rights = names_of c.args.right_scope.now in
    let zeros = divisions ((sense rights c.args.right.now).zeros (right_shape rights c.args.right.now (sense lefts c.args.form.now).shape.width)) in
    let last = c.zero_in.ensures ∙ ap (λ (s : Shape). least (divisions ((sense rights c.args.right.now).zeros s))) (c.right_shape-context.ensures.shape ∙ ap (λ (s : Shape). right_shape rights c.args.right.now s.width) c.shape_of-to.ensures.shape) in
    sides_right (sense lefts c.args.form.now).faults targets (wrong rights c.args.right.now) zeros c.fault_in.result c.args.target c.earlier-left.result c.wrong_in.result c.earlier.result c.zero_in.result c.fault_in.ensures told c.earlier-left.ensures.earlier c.wrong_in.ensures c.earlier.ensures.earlier c.in-None.is last
