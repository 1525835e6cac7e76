use Rattle.mutation_sites.proofs.Common.{refl}
use Rattle.mutation_sites.proofs.laws.ports_have_their_sites.Goals as goal

pub returns-clause-one : goal.returns-clause-one
returns-clause-one c = refl

pub returns-clause-two : goal.returns-clause-two
returns-clause-two c = refl
