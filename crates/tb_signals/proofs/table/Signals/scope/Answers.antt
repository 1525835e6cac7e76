use Rattle.vlog_meaning.specs.Scopes.{names_of}
use Rattle.tb_signals.proofs.Standing.{names_sized}
use Rattle.tb_signals.proofs.table.Signals.scope.Goals as goal

pub returns-clause-sized : goal.returns-clause-sized
returns-clause-sized c = rw (← c.self.view_is) (names_sized (names_of c.self.inside.scope) c.self.inside.starts.items c.self.invariant)
