use Rattle.elab_items.proofs.Common.{sym}
use Rattle.elab_items.proofs.start.set_item.Goals as goal

pub returns-in-Starts-clause-starts : goal.returns-in-Starts-clause-starts
returns-in-Starts-clause-starts c = rw c.in-Starts.is (rw (sym c.get.ensures) c.set_declared.ensures.starts)

pub returns-in-Runs-clause-starts : goal.returns-in-Runs-clause-starts
returns-in-Runs-clause-starts c = rw c.in-Runs.is (rw (sym c.get-in-Runs.ensures) c.set_run.ensures.starts)
