use Rattle.tb_known.proofs.Known.{known}
use Rattle.tb_known.proofs.laws.passing_code_is_known.Goals as goal

pub returns : goal.returns
returns c = known
