use Rattle.tb_known.proofs.Processes.{waits}
use Rattle.tb_known.proofs.laws.waits_pass.Goals as goal

pub returns : goal.returns
returns c = waits
