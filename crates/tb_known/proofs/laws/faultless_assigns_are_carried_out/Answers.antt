use Rattle.tb_known.proofs.Assigns.{assigns}
use Rattle.tb_known.proofs.laws.faultless_assigns_are_carried_out.Goals as goal

pub returns : goal.returns
returns c = assigns
