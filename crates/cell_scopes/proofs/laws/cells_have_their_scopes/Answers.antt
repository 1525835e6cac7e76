use Rattle.cell_scopes.proofs.Scoped.{cells_have_scopes, scopes_are_one}
use Rattle.cell_scopes.proofs.laws.cells_have_their_scopes.Goals as goal

pub returns-clause-one : goal.returns-clause-one
returns-clause-one c = scopes_are_one

pub returns-clause-each : goal.returns-clause-each
returns-clause-each c = cells_have_scopes
