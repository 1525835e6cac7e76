use Rattle.elab_items.proofs.Common.{length, least, names_of, signal, right_refusals}
use Rattle.elab_items.proofs.Building.{input_fails}
use Rattle.elab_items.proofs.connection.enter.Goals as goal
use Rattle.flat_assigns.proofs.Shapes.{none_there}

pub returns-in-Ok-clause-accepted : goal.returns-in-Ok-clause-accepted
returns-in-Ok-clause-accepted c = none_there (least (right_refusals (names_of c.args.scope.now) c.args.value.now (length (signal c.args.builder.now c.args.port)))) (λ x h. let told = (c.in-Ok.ensures.refused x h).0 in cc)

pub returns-in-Err-clause-fails : goal.returns-in-Err-clause-fails
returns-in-Err-clause-fails c =
    input_fails (names_of c.args.scope.now) c.args.value.now (length (signal c.args.builder.now c.args.port)) (length c.args.builder.now.cells) c.in-Err.error c.input_error.result
    (λ x h. let told = (c.in-Err.ensures.refused x h).0 in cc)
    c.in-Err.ensures.short
    c.input_error.ensures
