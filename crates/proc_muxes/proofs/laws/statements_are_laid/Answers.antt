use Rattle.proc_muxes.proofs.Alike.{laid-by-what-waits}
use Rattle.proc_muxes.proofs.Laying.{steps-laid}
use Rattle.proc_muxes.proofs.laws.statements_are_laid.Goals as goal

pub returns-clause-laid : goal.returns-clause-laid
returns-clause-laid c = steps-laid

pub returns-clause-by_what_waits : goal.returns-clause-by_what_waits
returns-clause-by_what_waits c = laid-by-what-waits
