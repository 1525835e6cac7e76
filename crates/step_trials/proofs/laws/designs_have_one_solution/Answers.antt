use Rattle.step_trials.proofs.Solved.{designs_solved}
use Rattle.step_trials.proofs.laws.designs_have_one_solution.Goals as goal

pub returns : goal.returns
returns c = designs_solved c.one_run.ensures.settles c.one_run.ensures.answer
