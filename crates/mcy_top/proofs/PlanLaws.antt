-- The netlists of campaigns.
use Rattle.netlist_core.specs.Checked.{Plan}
use Rattle.netlist_core.specs.Solutions.{OrderSettles, OneAnswerBySight}
use Rattle.mcy_top.specs.NetlistLaws.{CampaignsAreSound, CampaignsHaveOneSolution}
use Rattle.step_trials.proofs.Solved.{designs_solved, mutants_solved}

pub campaigns_sound : CampaignsAreSound
campaigns_sound c plan = plan.made.design.elaborated.has_netlist.runnable

pub campaigns_solved : OrderSettles → OneAnswerBySight → CampaignsHaveOneSolution
campaigns_solved settles answers c plan inputs state fit fit_state =
    let run = campaigns_sound c plan in
    let made : Plan = record { raw = c.netlist; order = run.0; nets = run.1 } in (
      designs_solved settles answers made run.2 inputs state fit fit_state,
      λ site has. mutants_solved settles answers made run.2 site inputs state fit fit_state,
    )
