use Rattle.mcy_top.proofs.PlanLaws.{campaigns_solved, campaigns_sound}
use Rattle.mcy_top.proofs.netlist_laws.campaigns_have_one_solution.Goals as goal

pub returns-clause-sound : goal.returns-clause-sound
returns-clause-sound c = campaigns_sound

pub returns-clause-solutions : goal.returns-clause-solutions
returns-clause-solutions c = campaigns_solved c.one_run.ensures.settles c.one_run.ensures.answer
