use Rattle.tb_assigns.proofs.Common.{add-one, names_of}
use Rattle.tb_assigns.proofs.Checking.{signals_next}
use Rattle.tb_assigns.proofs.check.+names.Goals as goal

pub all_name_signals-loop-part-preserved : goal.all_name_signals-loop-part-preserved
all_name_signals-loop-part-preserved t c = rw add-one (signals_next (names_of c.args.scope.now) c.args.parts.now c.loop-part.part-index c.part-item.result c.loop-part.found c.names_signals.result c.both-found.result c.part-item.is c.loop-part-test.true c.loop-part.invariant c.names_signals.ensures c.both-found.ensures)
