use Rattle.pair_gates.proofs.Accepting.{mutants-are-accepted, accepted-want-memory}
use Rattle.pair_gates.proofs.laws.mutants_are_accepted.Goals as goal

pub returns-clause-accepted : goal.returns-clause-accepted
returns-clause-accepted c = mutants-are-accepted

pub returns-clause-memory : goal.returns-clause-memory
returns-clause-memory c = accepted-want-memory
