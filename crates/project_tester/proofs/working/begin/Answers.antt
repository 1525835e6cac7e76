use Rattle.project_tester.proofs.Common.{◌≡◌, ◌<◌, length, slice_get, Some, ap, arith, Prepared, Equality, Simulation, test_at, asked_of}
use Rattle.project_tester.proofs.Asking.{bound_within, test_within}
use Rattle.project_tester.proofs.Equalities.{equality_begun}
use Rattle.project_tester.proofs.Simulations.{bench_fits, simulation_begun}
use Rattle.project_tester.proofs.working.begin.Goals as goal

pub mutant-requires-clause-plan : goal.mutant-requires-clause-plan
mutant-requires-clause-plan c = c.requires.testable.plan

pub begin-requires-clause-plan : goal.begin-requires-clause-plan
begin-requires-clause-plan c = c.requires.testable.plan

pub mutant-requires-clause-mutation : goal.mutant-requires-clause-mutation
mutant-requires-clause-mutation c = c.requires.askable.mutation

pub bounds-as_slice-want : goal.bounds-as_slice-want
bounds-as_slice-want c =
    let within : c.args.want.test < length c.args.prepared.now.trials = test_within c.args.prepared.now (asked_of c.args.mutation c.args.want) c.requires.testable.plan c.requires.askable in
    omega (arith, within, ap length c.as_slice.ensures)

pub begin-requires-clause-test : goal.begin-requires-clause-test
begin-requires-clause-test c =
    let prepared : Prepared = c.args.prepared.now in
    test_at prepared.trials c.as_slice.result.now c.args.want.test c.index-as_slice-want.result Equality c.as_slice.ensures (test_within prepared (asked_of c.args.mutation c.args.want) c.requires.testable.plan c.requires.askable) c.index-as_slice-want.is c.in-Equality.is

pub begin-requires-clause-bound : goal.begin-requires-clause-bound
begin-requires-clause-bound c =
    let prepared : Prepared = c.args.prepared.now in
    let within : c.args.want.test < length prepared.trials = test_within prepared (asked_of c.args.mutation c.args.want) c.requires.testable.plan c.requires.askable in
    bound_within prepared (asked_of c.args.mutation c.args.want) c.requires.testable.plan c.requires.askable
    (test_at prepared.trials c.as_slice.result.now c.args.want.test c.index-as_slice-want.result Equality c.as_slice.ensures within c.index-as_slice-want.is c.in-Equality.is)

pub new-requires : goal.new-requires
new-requires c =
    let prepared : Prepared = c.args.prepared.now in
    let within : c.args.want.test < length prepared.trials = test_within prepared (asked_of c.args.mutation c.args.want) c.requires.testable.plan c.requires.askable in
    let at : slice_get prepared.trials c.args.want.test ≡ Some (Simulation c.in-Simulation.bench c.in-Simulation.pass c.in-Simulation.fail) =
    test_at prepared.trials c.as_slice.result.now c.args.want.test c.index-as_slice-want.result (Simulation c.in-Simulation.bench c.in-Simulation.pass c.in-Simulation.fail) c.as_slice.ensures within c.index-as_slice-want.is c.in-Simulation.is in
    bench_fits prepared (asked_of c.args.mutation c.args.want) c.in-Simulation.bench c.in-Simulation.pass c.in-Simulation.fail c.requires.testable at c.in_ok-mutant.mutant c.in_ok-mutant.ensures.broken

pub returns-in-Equality : goal.returns-in-Equality
returns-in-Equality c = equality_begun c.args.prepared.now (asked_of c.args.mutation c.args.want) c.in_ok-job-in-Equality.job c.in_ok-job-in-Equality.ensures.is c.in_ok-job-in-Equality.ensures.few

pub returns : goal.returns
returns c =
    let prepared : Prepared = c.args.prepared.now in
    let within : c.args.want.test < length prepared.trials = test_within prepared (asked_of c.args.mutation c.args.want) c.requires.testable.plan c.requires.askable in
    let at : slice_get prepared.trials c.args.want.test ≡ Some (Simulation c.in-Simulation.bench c.in-Simulation.pass c.in-Simulation.fail) =
    test_at prepared.trials c.as_slice.result.now c.args.want.test c.index-as_slice-want.result (Simulation c.in-Simulation.bench c.in-Simulation.pass c.in-Simulation.fail) c.as_slice.ensures within c.index-as_slice-want.is c.in-Simulation.is in
    simulation_begun prepared (asked_of c.args.mutation c.args.want) c.in-Simulation.bench c.in-Simulation.pass c.in-Simulation.fail c.requires.testable at c.in_ok-mutant.mutant c.in_ok-mutant.ensures.broken c.in_ok-job-in-Simulation.job c.as_slice-in-Simulation.result.now c.as_slice-in-Simulation-2.result.now c.parts-parts.ensures.runnable c.in_ok-mutant.ensures.sound c.as_slice-in-Simulation.ensures c.as_slice-in-Simulation-2.ensures c.in_ok-job-in-Simulation.ensures
