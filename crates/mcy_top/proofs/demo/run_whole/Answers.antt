use Rattle.mcy_top.proofs.Common.{[], None, arith, ap, subst, sym, IsGoal, plain_limit}
use Rattle.mcy_top.specs.KeptTexts.{Kept}
use Rattle.mcy_top.proofs.Aiming.{none_again}
use Rattle.mcy_top.proofs.ShownEnds.{kept_blank}
use Rattle.mcy_top.proofs.Showing.{part_ran, ran_done, ran_none}
use Rattle.mcy_top.proofs.Simulating.{benches_say_once}
use Rattle.mcy_top.proofs.demo.run_whole.Goals as goal

pub begin_and_run-outcome-requires-clause-goal : goal.begin_and_run-outcome-requires-clause-goal
begin_and_run-outcome-requires-clause-goal g c = subst IsGoal (sym c.goal_of_all-goal.ensures) (none_again [])

pub begin_and_run-outcome-requires-clause-limit : goal.begin_and_run-outcome-requires-clause-limit
begin_and_run-outcome-requires-clause-limit g c = plain_limit c.args.prepared.now c.requires.fixed

pub begin_and_run-outcome-requires-clause-slots : goal.begin_and_run-outcome-requires-clause-slots
begin_and_run-outcome-requires-clause-slots g c = (omega arith, omega arith)

pub begin_and_run-outcome-requires-clause-kept : goal.begin_and_run-outcome-requires-clause-kept
begin_and_run-outcome-requires-clause-kept g c tells = kept_blank c.in-Ok.keeper.book c.in-Ok.ensures.empty

-- the run came to its end
pub returns-in-Done-clause-whole : goal.returns-in-Done-clause-whole
returns-in-Done-clause-whole g c =
    ran_done (benches_say_once c.benches_have_one_outcome.ensures c.designs_in_benches.ensures.settings c.designs_in_benches.ensures.starts c.mutants_tell_the_same.ensures c.baselines_are_one.ensures) _ c.new-status.result.text c.begin_and_run-outcome.new.out.text c.args.steps.now c.begin_and_run-outcome.new.steps 4 c.goal_of_all-goal.result c.args.prepared.now c.begin_and_run-outcome.result c.requires.plan c.goal_of_all-goal.ensures
    (ap (λ (k : Kept). k.text) c.new-status.ensures) c.in-Done.is (c.begin_and_run-outcome.ensures.work tt None)

pub returns-in-Done-clause-part : goal.returns-in-Done-clause-part
returns-in-Done-clause-part g c =
    part_ran (benches_say_once c.benches_have_one_outcome.ensures c.designs_in_benches.ensures.settings c.designs_in_benches.ensures.starts c.mutants_tell_the_same.ensures c.baselines_are_one.ensures) _ _ _ c.args.steps.now c.begin_and_run-outcome.new.steps 4 c.goal_of_all-goal.result c.args.prepared.now c.begin_and_run-outcome.result c.requires.plan c.goal_of_all-goal.ensures (c.begin_and_run-outcome.ensures.work tt None)

-- it broke off
pub returns-in_default-outcome-clause-part : goal.returns-in_default-outcome-clause-part
returns-in_default-outcome-clause-part g c =
    part_ran (benches_say_once c.benches_have_one_outcome.ensures c.designs_in_benches.ensures.settings c.designs_in_benches.ensures.starts c.mutants_tell_the_same.ensures c.baselines_are_one.ensures) _ _ _ c.args.steps.now c.begin_and_run-outcome.new.steps 4 c.goal_of_all-goal.result c.args.prepared.now c.begin_and_run-outcome.result c.requires.plan c.goal_of_all-goal.ensures (c.begin_and_run-outcome.ensures.work tt None)

-- there was no keeper
pub returns-in_default-clause-part : goal.returns-in_default-clause-part
returns-in_default-clause-part g c = ran_none c.args.prepared.now c.args.prepared.now.campaign.conflicts c.args.steps.now
