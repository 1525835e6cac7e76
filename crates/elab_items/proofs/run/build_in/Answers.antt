use Rattle.elab_items.proofs.Common.{names_of}
use Rattle.elab_items.proofs.Running.{process_fails}
use Rattle.elab_items.proofs.run.build_in.Goals as goal

pub returns-in-Err-clause-fails : goal.returns-in-Err-clause-fails
returns-in-Err-clause-fails c = λ inputs tells.
    process_fails inputs c.args.written.now (names_of c.args.scope.now) c.args.process.now c.args.builder.now c.in-Err.error c.process_error.result tells c.in-Err.ensures.accepted c.in-Err.ensures.short c.process_error.ensures
