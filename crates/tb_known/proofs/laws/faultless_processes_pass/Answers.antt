use Rattle.tb_known.proofs.Processes.{faultless}
use Rattle.tb_known.proofs.laws.faultless_processes_pass.Goals as goal

pub returns : goal.returns
returns c = faultless
