use Rattle.tb_apart.proofs.Clean.{nets_clean, items_clean}
use Rattle.tb_apart.proofs.laws.items_are_clean.Goals as goal

pub returns-clause-nets : goal.returns-clause-nets
returns-clause-nets c = nets_clean

pub returns-clause-items : goal.returns-clause-items
returns-clause-items c = items_clean
