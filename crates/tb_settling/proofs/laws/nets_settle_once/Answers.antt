use Rattle.tb_settling.proofs.Once.{settle_once}
use Rattle.tb_settling.proofs.laws.nets_settle_once.Goals as goal

pub returns : goal.returns
returns c = settle_once c.one_run.ensures.answer
