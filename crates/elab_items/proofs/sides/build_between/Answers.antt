use Rattle.elab_items.proofs.Common.{names_of}
use Rattle.elab_items.proofs.Building.{sides_fail}
use Rattle.elab_items.proofs.sides.build_between.Goals as goal

pub returns-in-Err-clause-fails : goal.returns-in-Err-clause-fails
returns-in-Err-clause-fails c =
    sides_fail c.args.inputs.now (names_of c.args.left_scope.now) c.args.left.now (names_of c.args.right_scope.now) c.args.right.now c.args.builder.now c.in-Err.error c.assign_error.result
    (λ r h. (c.in-Err.ensures.refused r cc).0)
    (λ k h. c.in-Err.ensures.limit k cc)
    c.assign_error.ensures
