use Rattle.campaign_baseline.proofs.Common.{◌≡◌, slice_get, Some, Prepared, Equality, Simulation, plan_fits, test_at, IsBaseline}
use Rattle.campaign_baseline.proofs.Listing.{baseline_is, list_more, list_same}
use Rattle.campaign_baseline.proofs.simulating.add_baseline.Goals as goal

pub baseline_of-requires : goal.baseline_of-requires
baseline_of-requires c =
    let prepared : Prepared = c.args.prepared.now in
    plan_fits prepared c.args.test c.in-Simulation.bench c.in-Simulation.pass c.in-Simulation.fail c.requires.plan
    (test_at prepared.trials c.as_slice.result.now c.args.test c.index-as_slice-test.result (Simulation c.in-Simulation.bench c.in-Simulation.pass c.in-Simulation.fail) c.as_slice.ensures c.requires.test c.index-as_slice-test.is c.in-Simulation.is)

pub returns-in-Equality : goal.returns-in-Equality
returns-in-Equality c =
    let prepared : Prepared = c.args.prepared.now in
    list_same prepared c.args.limit c.args.test c.args.list.now.items c.requires.before
    (test_at prepared.trials c.as_slice.result.now c.args.test c.index-as_slice-test.result Equality c.as_slice.ensures c.requires.test c.index-as_slice-test.is c.in-Equality.is)

pub returns-in_ok-push-in-Simulation : goal.returns-in_ok-push-in-Simulation
returns-in_ok-push-in-Simulation c =
    let prepared : Prepared = c.args.prepared.now in
    let at : slice_get prepared.trials c.args.test ≡ Some (Simulation c.in-Simulation.bench c.in-Simulation.pass c.in-Simulation.fail) =
    test_at prepared.trials c.as_slice.result.now c.args.test c.index-as_slice-test.result (Simulation c.in-Simulation.bench c.in-Simulation.pass c.in-Simulation.fail) c.as_slice.ensures c.requires.test c.index-as_slice-test.is c.in-Simulation.is in
    let one = c.in_ok-baseline-in-Simulation in
    let is : IsBaseline prepared c.args.limit one.baseline = baseline_is prepared c.args.limit c.args.test one.baseline c.in-Simulation.bench c.in-Simulation.pass c.in-Simulation.fail c.as_slice-in-Simulation.result.now c.as_slice-in-Simulation-2.result.now at one.ensures.test c.as_slice-in-Simulation.ensures c.as_slice-in-Simulation-2.ensures one.ensures.says one.ensures.takes in
    rw c.in_ok-push-in-Simulation.ensures.items (list_more prepared c.args.limit c.args.test c.args.list.now.items one.baseline c.in-Simulation.bench c.in-Simulation.pass c.in-Simulation.fail c.requires.before at one.ensures.test is)
