use Rattle.tb_machine.proofs.Pieces.{one_outcome}
use Rattle.tb_machine.proofs.laws.simulations_agree.Goals as goal

pub returns : goal.returns
returns c = one_outcome
