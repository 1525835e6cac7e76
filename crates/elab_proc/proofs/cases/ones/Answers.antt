use Rattle.elab_proc.proofs.Common.{arith}
use Rattle.vlog_meaning.proofs.Powers.{power_fits}
use Rattle.elab_proc.proofs.cases.ones.Goals as goal

pub pow-requires : goal.pow-requires
pow-requires c = power_fits c.from.result (omega arith)
