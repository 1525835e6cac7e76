use Rattle.process_cells.proofs.Common.{refl, IfErr-weaker, on_ok_weaker, names_of, steps_of, said}
use Rattle.process_cells.proofs.Items.{steps_are, fit_there, process_added, process_short}
use Rattle.process_cells.proofs.process.build_accepted.Goals as goal

pub build_body-requires-clause-fit : goal.build_body-requires-clause-fit
build_body-requires-clause-fit c =
    let names = names_of c.args.scope.now in
    let steps = steps_are names names c.args.process.now c.get.result.now c.statement_of-body.result.now refl c.get.ensures c.statement_of-body.ensures in
    fit_there names c.args.process.now (said c.sensitivity_of-when.result) (steps_of c.statement_of-body.result.now names) c.sensitivity_of-when.ensures steps c.requires.fit

pub returns-clause-adds : goal.returns-clause-adds
returns-clause-adds c =
    let names = names_of c.args.scope.now in
    let steps = steps_are names names c.args.process.now c.get.result.now c.statement_of-body.result.now refl c.get.ensures c.statement_of-body.ensures in
    on_ok_weaker c.build_body.result (process_added names c.args.process.now (said c.sensitivity_of-when.result) (steps_of c.statement_of-body.result.now names) c.args.builder.now c.build_body.new.builder c.sensitivity_of-when.ensures steps) c.build_body.ensures.adds

pub returns-clause-short : goal.returns-clause-short
returns-clause-short c =
    let names = names_of c.args.scope.now in
    let steps = steps_are names names c.args.process.now c.get.result.now c.statement_of-body.result.now refl c.get.ensures c.statement_of-body.ensures in
    IfErr-weaker c.build_body.result _ _ (λ e h. process_short names c.args.process.now (said c.sensitivity_of-when.result) (steps_of c.statement_of-body.result.now names) c.args.builder.now e c.sensitivity_of-when.ensures steps h) c.build_body.ensures.short
