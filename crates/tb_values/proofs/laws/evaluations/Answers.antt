use Rattle.tb_values.proofs.Staying.{stays}
use Rattle.tb_values.proofs.Keeping.{shapes_stay}
use Rattle.tb_values.proofs.laws.evaluations.Goals as goal

pub returns-clause-others : goal.returns-clause-others
returns-clause-others c = stays

pub returns-clause-shapes : goal.returns-clause-shapes
returns-clause-shapes c = shapes_stay
