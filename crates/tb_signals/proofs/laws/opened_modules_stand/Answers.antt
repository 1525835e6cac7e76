use Rattle.tb_signals.proofs.Standing.{opened_stand}
use Rattle.tb_signals.proofs.laws.opened_modules_stand.Goals as goal

pub returns : goal.returns
returns c = opened_stand
