use Rattle.tb_apart.proofs.Apart.{nets_apart}
use Rattle.tb_apart.proofs.laws.nets_are_apart.Goals as goal

pub returns : goal.returns
returns c = nets_apart
