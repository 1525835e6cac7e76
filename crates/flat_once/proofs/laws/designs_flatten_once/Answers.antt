use Rattle.flat_once.proofs.Flattened.{flattens_once, has_one_top, no_top_flattens}
use Rattle.flat_once.proofs.laws.designs_flatten_once.Goals as goal

pub returns-clause-one : goal.returns-clause-one
returns-clause-one c = flattens_once

pub returns-clause-top : goal.returns-clause-top
returns-clause-top c = has_one_top

pub returns-clause-no_top : goal.returns-clause-no_top
returns-clause-no_top c = no_top_flattens
