use Rattle.vlog_expand.proofs.Defining.{definitions-empty}
use Rattle.vlog_expand.proofs.macros.Macros.new.Goals as goal

pub returns : goal.returns
returns c = definitions-empty _ c.new.ensures.empty
