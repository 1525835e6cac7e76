use Rattle.step_trials.proofs.MutantNetlists.{mutants_netlists}
use Rattle.step_trials.proofs.laws.mutants_are_netlists.Goals as goal

pub returns : goal.returns
returns c = mutants_netlists
