use Rattle.vlog_meaning.proofs.Powers.{power_fits}
use Rattle.tb_reading.proofs.clock.ones.Goals as goal

pub pow-requires : goal.pow-requires
pow-requires c = rw c.from.ensures (power_fits c.args.width c.if-width-lt128.true)
