use Rattle.flat_runs.proofs.Chain.{item_follows}
use Rattle.flat_runs.proofs.Combining.{combinational_add}
use Rattle.flat_runs.proofs.Joining.{assigns_add}
use Rattle.flat_runs.proofs.Storing.{clocked_add}
use Rattle.flat_runs.proofs.laws.items_are_added.Goals as goal

pub returns-clause-assigns : goal.returns-clause-assigns
returns-clause-assigns c = assigns_add

pub returns-clause-combinational : goal.returns-clause-combinational
returns-clause-combinational c = combinational_add

pub returns-clause-clocked : goal.returns-clause-clocked
returns-clause-clocked c = clocked_add

pub returns-clause-follows : goal.returns-clause-follows
returns-clause-follows c = item_follows
