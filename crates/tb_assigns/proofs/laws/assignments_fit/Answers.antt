use Rattle.tb_assigns.proofs.Fitting.{all_fit, outside_stays}
use Rattle.tb_assigns.proofs.laws.assignments_fit.Goals as goal

pub returns-clause-fit : goal.returns-clause-fit
returns-clause-fit c = all_fit

pub returns-clause-outside : goal.returns-clause-outside
returns-clause-outside c = outside_stays
