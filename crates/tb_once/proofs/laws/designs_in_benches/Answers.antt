use Rattle.tb_once.proofs.Designs.{settings_by_design, starts_by_registers}
use Rattle.tb_once.proofs.laws.designs_in_benches.Goals as goal

pub returns : goal.returns
returns c = record { settings = settings_by_design; starts = starts_by_registers }
