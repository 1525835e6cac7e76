use Rattle.process_cells.proofs.Laying.{processes_laid}
use Rattle.process_cells.proofs.laws.processes_are_laid.Goals as goal

pub returns : goal.returns
returns c = processes_laid
