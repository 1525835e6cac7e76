use Rattle.project_limits.proofs.Places.{places_few, places_known}
use Rattle.project_limits.proofs.Requirements.{requirement_known}
use Rattle.project_limits.proofs.laws.options_are_known.Goals as goal

pub returns-clause-requirement : goal.returns-clause-requirement
returns-clause-requirement c = requirement_known

pub returns-clause-places : goal.returns-clause-places
returns-clause-places c = places_known

pub returns-clause-few : goal.returns-clause-few
returns-clause-few c = places_few
