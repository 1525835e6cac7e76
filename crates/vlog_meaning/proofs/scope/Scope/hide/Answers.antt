use Rattle.std.proofs.Common.{None}
use Rattle.vlog_meaning.proofs.Lookups.{updated}
use Rattle.vlog_meaning.proofs.scope.Scope.hide.Goals as goal

pub returns : goal.returns
returns c = rw (← c.self.view_is) (updated c.args.name.now c.self.inside.names c.remove.new.self None c.remove.ensures.updates)
