use Rattle.flat_scopes.proofs.Common.{refl}
use Rattle.flat_scopes.proofs.laws.scopes_of_examples.Goals as goal

pub returns-clause-one_port : goal.returns-clause-one_port
returns-clause-one_port c = λ a b. (refl, refl, refl, refl)

pub returns-clause-second : goal.returns-clause-second
returns-clause-second c = λ x y z. (refl, refl)

pub returns-clause-heads : goal.returns-clause-heads
returns-clause-heads c = λ a b. (refl, refl, refl, refl)

pub returns-clause-head_twice : goal.returns-clause-head_twice
returns-clause-head_twice c = λ a b. refl

pub returns-clause-labels : goal.returns-clause-labels
returns-clause-labels c = λ a b. (refl, refl)

pub returns-clause-instances : goal.returns-clause-instances
returns-clause-instances c = λ a b m. (refl, refl)
