-- A simulation at its start, and after a turn.
use Rattle.project_tester.proofs.Common.{◌≡◌, ◌∙◌, ◌<◌, ◌≤◌, ℕ, List, slice_get, Option, None, Some, false, refl, sym, ap, subst, Plan, IsSound, phases_of, phases_after, Parts, FitsDesign, IsRunnable}
use Rattle.project_tester.proofs.Common.{Simulating, IsSameJob, new_job, Prepared, Trial, Simulation, plan_fits, IsTestable, IsBrokenAt, Asked, Ended, cycle_turns, most_by, HasBegun, IsSimulating}
use Rattle.project_tester.proofs.Common.{ComesTo, GoesOn, SimulatesTo}
use Rattle.project_tester.specs.declared.job.Work.TheVariants as work
use Rattle.project_tester.proofs.Ending.{simulation_ended}
use Rattle.project_tester.proofs.Fitting.{fits_at}
use Rattle.project_tester.proofs.Lefts.{all_cycles, fewer_cycles}

-- ---- its start

module _ (c : Prepared) (asked : Asked) (bench : Parts) (pass fail : List ℕ) (testable : IsTestable c) (test : slice_get c.trials asked.test ≡ Some (Simulation bench pass fail)) (mutated : Plan) (broken : IsBrokenAt c asked.mutation mutated.raw) where
  pub bench_fits : FitsDesign bench mutated.raw
  bench_fits = fits_at c asked.mutation bench mutated.raw (plan_fits c asked.test bench pass fail testable.plan test) broken

  new_simulating : (job : Simulating) (p f : List ℕ) → IsRunnable bench → IsSound mutated → p ≡ pass → f ≡ fail → job ≡ new_job (record { bench = bench; netlist = mutated.raw; seed = c.word_seed }) c.cycles p f → IsSimulating c asked job
  new_simulating job p f runnable sound pass_is fail_is is = record {
    testable = testable;
    bench = bench;
    pass = pass;
    fail = fail;
    test = test;
    runnable = runnable;
    mutated = mutated;
    sound = sound;
    broken = broken;
    fits = bench_fits;
    simulated = ap (λ (j : Simulating). j.simulated) is;
    limit = ap (λ (j : Simulating). j.limit) is;
    pass_is = ap (λ (j : Simulating). j.pass) is ∙ pass_is;
    fail_is = ap (λ (j : Simulating). j.fail) is ∙ fail_is;
    going = ap (λ (j : Simulating). j.is_over) is;
  }

  pub simulation_begun : (job : Simulating) (p f : List ℕ) → IsRunnable bench → IsSound mutated → p ≡ pass → f ≡ fail → job ≡ new_job (record { bench = bench; netlist = mutated.raw; seed = c.word_seed }) c.cycles p f → HasBegun c asked (work.Simulation job)
  simulation_begun job p f runnable sound pass_is fail_is is = record {
    is = new_simulating job p f runnable sound pass_is fail_is is;
    none = refl;
    few = subst (λ (o : Option Trial). cycle_turns job ≤ most_by c o asked.bound) (sym test)
        (all_cycles job.limit c.cycles job.phases (ap (λ (j : Simulating). j.limit) is) (ap (λ (j : Simulating). j.phases) is));
  }

-- ---- a turn

pub fewer_turns : (old new : Simulating) → IsSameJob old new → new.phases ≡ phases_after old.phases 256 → new.phases < phases_of old.limit → cycle_turns new < cycle_turns old
fewer_turns old new same added more = fewer_cycles old.limit new.limit old.phases new.phases same.limit added more

pub still_simulating : (c : Prepared) (asked : Asked) (old new : Simulating) → IsSimulating c asked old → IsSameJob old new → new.is_over ≡ false → IsSimulating c asked new
still_simulating c asked old new is same going = record {
  testable = is.testable;
  bench = is.bench;
  pass = is.pass;
  fail = is.fail;
  test = is.test;
  runnable = is.runnable;
  mutated = is.mutated;
  sound = is.sound;
  broken = is.broken;
  fits = is.fits;
  simulated = same.simulated ∙ is.simulated;
  limit = same.limit ∙ is.limit;
  pass_is = same.pass ∙ is.pass_is;
  fail_is = same.fail ∙ is.fail_is;
  going = going;
}

module _ (old new : Simulating) (same : IsSameJob old new) where
  pub simulated_turned : (o : Option Ended) → SimulatesTo old new o → GoesOn (work.Simulation old) (work.Simulation new) o
  simulated_turned None turned = (refl, turned.1)
  simulated_turned (Some ended) turned = tt

  pub simulated_kept : (c : Prepared) (asked : Asked) → IsSimulating c asked old → (o : Option Ended) → SimulatesTo old new o → ComesTo c asked (work.Simulation new) o
  simulated_kept c asked is None turned = still_simulating c asked old new is same turned.0
  simulated_kept c asked is (Some ended) turned = simulation_ended c asked old turned.0 ended is turned.1 turned.2 turned.3
