use Rattle.elab_proc.proofs.Order.{first_once}
use Rattle.elab_proc.proofs.laws.first_is_one.Goals as goal

pub returns : goal.returns
returns c = first_once
