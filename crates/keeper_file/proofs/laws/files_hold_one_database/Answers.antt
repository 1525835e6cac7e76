use Rattle.keeper_file.proofs.OneDatabase.{one_database}
use Rattle.keeper_file.proofs.Reopened.{found_held, found_nothing, found_some}
use Rattle.keeper_file.proofs.laws.files_hold_one_database.Goals as goal

pub returns-clause-one : goal.returns-clause-one
returns-clause-one c = one_database

pub returns-clause-held : goal.returns-clause-held
returns-clause-held c = found_held

pub returns-clause-nothing : goal.returns-clause-nothing
returns-clause-nothing c = found_nothing

pub returns-clause-some : goal.returns-clause-some
returns-clause-some c = found_some
