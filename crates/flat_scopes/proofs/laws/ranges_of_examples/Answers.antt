use Rattle.flat_scopes.proofs.Common.{refl}
use Rattle.flat_scopes.proofs.laws.ranges_of_examples.Goals as goal

pub returns-clause-accepted : goal.returns-clause-accepted
returns-clause-accepted c = ((λ at. refl), (λ at. refl), (λ at. refl), (λ at. refl))

pub returns-clause-wide : goal.returns-clause-wide
returns-clause-wide c = ((λ at. refl), (λ at. refl))

pub returns-clause-malformed : goal.returns-clause-malformed
returns-clause-malformed c = ((λ at. refl), (λ at. refl), (λ at. refl))
