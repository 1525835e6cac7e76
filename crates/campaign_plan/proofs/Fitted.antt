-- A bench of a campaign fits its design, and each test has its place.
use Rattle.campaign_plan.proofs.Common.{◌≡◌, ◌<◌, ℕ, zero, suc, List, [], ◌∷◌, length, get_or, slice_get, Some, refl, sym, ap, subst, ◌∙◌, length-map, RawNetlist, TestKind, Eq, Sim, TestPlan}
use Rattle.campaign_plan.proofs.Common.{Campaign, Prepared, Trial, Simulation, kind_of, test_kinds, numbers_in, AreTrials, IsTrial, Reading, IsPlan}
use Rattle.std.proofs.lemmas.Option.{slice_get-get_or}
use Rattle.tb_bench.specs.declared.parts.Parts.{Parts}
use Rattle.tb_bench.specs.Runnable.{FitsDesign}
use Rattle.project_benches.proofs.Fitting.{bench_fits}

trial_fits : (r : Reading) (kind : TestKind) (bench : Parts) (pass fail : List ℕ) → IsTrial r kind (Simulation bench pass fail) → FitsDesign bench r.netlist
trial_fits r Eq bench pass fail is = absurd is
trial_fits r (Sim name files p f) bench pass fail is = bench_fits r.modules (numbers_in r.names files) name r.top r.netlist bench is.0

trials_fit : (r : Reading) (tests : List TestPlan) (trials : List Trial) (t : ℕ) (bench : Parts) (pass fail : List ℕ) → AreTrials r tests trials → slice_get trials t ≡ Some (Simulation bench pass fail) → FitsDesign bench r.netlist
trials_fit r [] [] t bench pass fail are at = cc
trials_fit r [] (x ∷ xs) t bench pass fail are at = absurd are
trials_fit r (test ∷ tests) [] t bench pass fail are at = absurd are
trials_fit r (test ∷ tests) (x ∷ xs) zero bench pass fail are at =
    let same : x ≡ Simulation bench pass fail = cc in
    trial_fits r test.kind bench pass fail (subst (λ trial. IsTrial r test.kind trial) same are.0)
trials_fit r (test ∷ tests) (x ∷ xs) (suc t) bench pass fail are at = trials_fit r tests xs t bench pass fail are.1 at

-- the test that stands at a place
pub test_at : (trials list : List Trial) (t : ℕ) (r x : Trial) → list ≡ trials → t < length trials → r ≡ get_or list t r → r ≡ x → slice_get trials t ≡ Some x
test_at trials list t r x are below is same =
    slice_get-get_or trials t r below ∙ ap (λ (y : Trial). Some y) (subst (λ (l : List Trial). get_or l t r ≡ r) are (sym is) ∙ same)

-- the bench of a campaign's test fits its design
pub plan_fits : (c : Prepared) (t : ℕ) (bench : Parts) (pass fail : List ℕ) → IsPlan c → slice_get c.trials t ≡ Some (Simulation bench pass fail) → FitsDesign bench c.netlist
plan_fits c t bench pass fail plan at =
    subst (λ (n : RawNetlist). FitsDesign bench n) plan.made.is_reading.netlist_is (trials_fit plan.made.reading plan.made.project.tests c.trials t bench pass fail plan.made.trials at)

count_trials : (r : Reading) (tests : List TestPlan) (trials : List Trial) → AreTrials r tests trials → length tests ≡ length trials
count_trials r [] [] are = refl
count_trials r [] (x ∷ xs) are = absurd are
count_trials r (test ∷ tests) [] are = absurd are
count_trials r (test ∷ tests) (x ∷ xs) are = ap suc (count_trials r tests xs are.1)

-- there are as many as the campaign has kinds
pub plan_trials : (c : Prepared) → IsPlan c → length c.campaign.kinds ≡ length c.trials
plan_trials c plan =
    let kinds : length c.campaign.kinds ≡ length (test_kinds plan.made.project) = ap (λ (k : Campaign). length k.kinds) plan.made.campaign in
    kinds ∙ length-map plan.made.project.tests (λ (t : TestPlan). kind_of t.kind) ∙ count_trials plan.made.reading plan.made.project.tests c.trials plan.made.trials
