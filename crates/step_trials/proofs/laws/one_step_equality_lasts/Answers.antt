use Rattle.step_trials.proofs.TrialLemmas.{one_step_to_all_runs}
use Rattle.step_trials.proofs.laws.one_step_equality_lasts.Goals as goal

pub returns : goal.returns
returns c = one_step_to_all_runs
