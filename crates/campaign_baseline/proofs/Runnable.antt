-- The bench of each simulation of a campaign can run.
use Rattle.campaign_baseline.proofs.Common.{◌≡◌, ℕ, zero, suc, List, [], ◌∷◌, slice_get, Some, subst, Parts, IsRunnable, Prepared, Trial, Simulation, IsPlan}
use Rattle.project_file.specs.declared.project.TestKind.{TestKind}
use Rattle.project_file.specs.declared.project.TestKind.TheVariants.{Eq, Sim}
use Rattle.project_file.specs.declared.project.TestPlan.{TestPlan}
use Rattle.campaign_plan.specs.Trials.{AreTrials, IsTrial, Reading}

trial_runs : (r : Reading) (kind : TestKind) (bench : Parts) (pass fail : List ℕ) → IsTrial r kind (Simulation bench pass fail) → IsRunnable bench
trial_runs r Eq bench pass fail is = absurd is
trial_runs r (Sim name files p f) bench pass fail is = is.0.runs

trials_run : (r : Reading) (tests : List TestPlan) (trials : List Trial) (t : ℕ) (bench : Parts) (pass fail : List ℕ) → AreTrials r tests trials → slice_get trials t ≡ Some (Simulation bench pass fail) → IsRunnable bench
trials_run r [] [] t bench pass fail are at = cc
trials_run r [] (x ∷ xs) t bench pass fail are at = absurd are
trials_run r (test ∷ tests) [] t bench pass fail are at = absurd are
trials_run r (test ∷ tests) (x ∷ xs) zero bench pass fail are at =
    let same : x ≡ Simulation bench pass fail = cc in
    trial_runs r test.kind bench pass fail (subst (λ (trial : Trial). IsTrial r test.kind trial) same are.0)
trials_run r (test ∷ tests) (x ∷ xs) (suc t) bench pass fail are at = trials_run r tests xs t bench pass fail are.1 at

-- the bench of a campaign's test can run
pub plan_runs : (c : Prepared) (t : ℕ) (bench : Parts) (pass fail : List ℕ) → IsPlan c → slice_get c.trials t ≡ Some (Simulation bench pass fail) → IsRunnable bench
plan_runs c t bench pass fail plan at = trials_run plan.made.reading plan.made.project.tests c.trials t bench pass fail plan.made.trials at
