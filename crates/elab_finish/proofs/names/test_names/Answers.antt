use Rattle.elab_finish.proofs.Naming.{none_told}
use Rattle.elab_finish.proofs.names.test_names.Goals as goal

pub returns-in-None : goal.returns-in-None
returns-in-None c = λ b within. none_told c.in_ok-span.field-0 c.as_slice.result.now c.args.raw.now.registers c.as_slice.ensures c.in_ok-span.ensures c.in-None.is
