use Rattle.step_trials.proofs.Solved.{mutants_solved}
use Rattle.step_trials.proofs.laws.mutants_have_one_solution.Goals as goal

pub returns : goal.returns
returns c = mutants_solved c.one_run.ensures.settles c.one_run.ensures.answer
