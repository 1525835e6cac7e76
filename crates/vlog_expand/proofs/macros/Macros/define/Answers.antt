use Rattle.vlog_expand.proofs.Defining.{definitions-updated}
use Rattle.vlog_expand.proofs.macros.Macros.define.Goals as goal

pub returns : goal.returns
returns c = definitions-updated _ _ _ _ (c.in_ok-insert.ensures).updates
