use Rattle.vlog_expand.proofs.Defining.{definitions-updated}
use Rattle.vlog_expand.proofs.macros.Macros.undefine.Goals as goal

pub returns : goal.returns
returns c = definitions-updated _ _ _ _ c.remove.ensures.updates
