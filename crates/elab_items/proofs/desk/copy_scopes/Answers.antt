use Rattle.elab_items.proofs.Common.{rules}
use Rattle.elab_items.proofs.Running.{copies_more}
use Rattle.elab_items.proofs.desk.copy_scopes.Goals as goal

pub loop-next-preserved : goal.loop-next-preserved
loop-next-preserved c = record { count = search rules; copies = search (rules, copies_more) }
