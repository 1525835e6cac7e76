use Rattle.pair_gates.proofs.MutantsAlike.{mutants-are-alike, alike-are-not-apart}
use Rattle.pair_gates.proofs.laws.mutants_are_alike.Goals as goal

pub returns-clause-alike : goal.returns-clause-alike
returns-clause-alike c = mutants-are-alike

pub returns-clause-accepted : goal.returns-clause-accepted
returns-clause-accepted c = alike-are-not-apart
