use Rattle.signal_masks.proofs.Common.{arith}
use Rattle.vlog_meaning.proofs.Powers.{power_fits}
use Rattle.signal_masks.proofs.mask.below.Goals as goal

pub pow-requires : goal.pow-requires
pow-requires c = power_fits c.from.result (omega arith)
