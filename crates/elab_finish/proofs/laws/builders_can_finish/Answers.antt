use Rattle.elab_finish.proofs.Lefts.{joined_covered}
use Rattle.elab_finish.proofs.Registering.{registers_have, signals_have}
use Rattle.elab_finish.proofs.laws.builders_can_finish.Goals as goal

pub returns-clause-registers : goal.returns-clause-registers
returns-clause-registers c = registers_have

pub returns-clause-signals : goal.returns-clause-signals
returns-clause-signals c = signals_have

pub returns-clause-covered : goal.returns-clause-covered
returns-clause-covered c = joined_covered
