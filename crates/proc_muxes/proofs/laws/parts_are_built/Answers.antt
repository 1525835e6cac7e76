use Rattle.proc_muxes.proofs.Fitting.{changes-fit, choices-fit}
use Rattle.proc_muxes.proofs.Joining.{built-push}
use Rattle.proc_muxes.proofs.Merging.{built-choice}
use Rattle.proc_muxes.proofs.laws.parts_are_built.Goals as goal

pub returns-clause-choices : goal.returns-clause-choices
returns-clause-choices c = built-choice

pub returns-clause-followed : goal.returns-clause-followed
returns-clause-followed c = built-push

pub returns-clause-changes_fit : goal.returns-clause-changes_fit
returns-clause-changes_fit c = changes-fit

pub returns-clause-choices_fit : goal.returns-clause-choices_fit
returns-clause-choices_fit c = choices-fit
