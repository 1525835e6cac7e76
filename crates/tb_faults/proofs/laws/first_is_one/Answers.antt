use Rattle.tb_faults.proofs.Order.{first_once}
use Rattle.tb_faults.proofs.laws.first_is_one.Goals as goal

pub returns : goal.returns
returns c = first_once
