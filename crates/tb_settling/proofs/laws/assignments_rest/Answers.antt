use Rattle.tb_settling.proofs.Sides.{sides_fit}
use Rattle.tb_settling.proofs.Windows.{updates_rest, stay_inside}
use Rattle.tb_settling.proofs.laws.assignments_rest.Goals as goal

pub returns-clause-reads : goal.returns-clause-reads
returns-clause-reads c = updates_rest

pub returns-clause-inside : goal.returns-clause-inside
returns-clause-inside c = stay_inside

pub returns-clause-fit : goal.returns-clause-fit
returns-clause-fit c = sides_fit
