use Rattle.tb_reading.proofs.Alike.{benches_alike}
use Rattle.tb_reading.proofs.laws.benches_are_alike.Goals as goal

pub returns : goal.returns
returns c = benches_alike
