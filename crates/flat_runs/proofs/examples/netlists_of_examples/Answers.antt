use Rattle.flat_runs.proofs.Netlists.{wire_is_one_net, counter_is_one_cell}
use Rattle.flat_runs.proofs.examples.netlists_of_examples.Goals as goal

pub returns-clause-wire : goal.returns-clause-wire
returns-clause-wire c = wire_is_one_net

pub returns-clause-counter : goal.returns-clause-counter
returns-clause-counter c = counter_is_one_cell
