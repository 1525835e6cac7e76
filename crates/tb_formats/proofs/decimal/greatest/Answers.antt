use Rattle.std.proofs.Common.{arith}
use Rattle.tb_formats.proofs.decimal.greatest.Goals as goal
use Rattle.vlog_meaning.proofs.Powers.{power_fits}

pub pow-requires : goal.pow-requires
pow-requires c = power_fits c.from.result (omega arith)
