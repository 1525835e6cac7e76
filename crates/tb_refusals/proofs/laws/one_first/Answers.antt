use Rattle.tb_refusals.proofs.Firsts.{first_once_in}
use Rattle.tb_refusals.proofs.laws.one_first.Goals as goal

pub returns : goal.returns
returns c = first_once_in
