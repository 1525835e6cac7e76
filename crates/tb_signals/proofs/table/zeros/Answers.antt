use Rattle.std.proofs.Common.{arith}
use Rattle.tb_signals.proofs.Standing.{sized_at}
use Rattle.tb_signals.proofs.table.zeros.Goals as goal

pub zero-requires-clause-some : goal.zero-requires-clause-some
zero-requires-clause-some c = (sized_at c.args.signals.now c.loop-signal.signal-index c.signal-item.result (omega arith) c.signal-item.is c.requires).0

pub zero-requires-clause-narrow : goal.zero-requires-clause-narrow
zero-requires-clause-narrow c = (sized_at c.args.signals.now c.loop-signal.signal-index c.signal-item.result (omega arith) c.signal-item.is c.requires).1
