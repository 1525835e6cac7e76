-- A project and its sources have one list of baselines.
use Rattle.campaign_baseline.proofs.Common.{◌≡◌, ◌∙◌, ℕ, zero, suc, List, [], ◌∷◌, ◌++◌, length, map, slice_get, Option, None, Some, refl, sym, ap, subst, All-head, All-tail, Outcome, phases_of}
use Rattle.campaign_baseline.proofs.Common.{Parts, FitsDesign, IsRunnable, SimVerdict, Says, Simulated, Prepared, Trial, Equality, Simulation, IsPlan, AreAlike, IsSame, SameTests, plan_fits}
use Rattle.campaign_baseline.proofs.Common.{plan_trials, plan_once, Baseline, design_run, sim_at, sims_below, EndsIn, IsBaseline, BaselinesAreOne}
use Rattle.std.specs.List.{All}
use Rattle.netlist_core.specs.Checked.{Plan}
use Rattle.netlist_core.specs.declared.raw.RawNetlist.{RawNetlist}
use Rattle.tb_machine.specs.Nodes.{tree_of}
use Rattle.tb_machine.specs.Phases.{Setting, State}
use Rattle.tb_bench.specs.Settings.{setting_of, start_of}
use Rattle.tb_process.specs.Running.{generator}
use Rattle.tb_turns.specs.Verdicts.{IsVerdict, IsWord}
use Rattle.tb_once.specs.Laws.{BenchesEndOnce, BenchesHaveOneOutcome}
use Rattle.campaign_baseline.proofs.OneEnd.{cycle_once, EndsAt, GoesOnOnce}
use Rattle.campaign_baseline.proofs.Runnable.{plan_runs}
use Rattle.tb_turns.proofs.Words.{one_word}

-- One simulation.

-- what a simulation with the statements of its code, or with others that do the same, says and when it ends
record Told (g : Setting) (start : State) (limit : ℕ) (pass fail : List ℕ) (verdict : SimVerdict) (cycle : ℕ) : Type 0 where
  says : IsVerdict g start limit pass fail verdict
  takes : EndsAt g start limit cycle

told_of : (x : Simulated) (limit : ℕ) (pass fail : List ℕ) (verdict : SimVerdict) (cycle : ℕ) (a : Parts) (alike : AreAlike x.bench a) → Says x limit pass fail verdict → EndsIn x limit cycle → Told (setting_of x.bench (tree_of alike.trees) x.netlist) (start_of x.bench (tree_of alike.trees) x.netlist (generator x.seed)) limit pass fail verdict cycle
told_of x limit pass fail verdict cycle a alike says takes = record {
  says = says alike.trees alike.code;
  takes = record { some = takes.some; few = takes.few; before = λ later. takes.before later alike.trees alike.code; ends = takes.ends alike.trees alike.code };
}

told_by_other : (x : Simulated) (limit : ℕ) (pass fail : List ℕ) (verdict : SimVerdict) (cycle : ℕ) (a : Parts) (alike : AreAlike a x.bench) → Says x limit pass fail verdict → EndsIn x limit cycle → Told (setting_of x.bench (tree_of alike.others) x.netlist) (start_of x.bench (tree_of alike.others) x.netlist (generator x.seed)) limit pass fail verdict cycle
told_by_other x limit pass fail verdict cycle a alike says takes = record {
  says = says alike.others alike.other_code;
  takes = record { some = takes.some; few = takes.few; before = λ later. takes.before later alike.others alike.other_code; ends = takes.ends alike.others alike.other_code };
}

-- from one bench to another that is alike
told_alike : (a b : Parts) (netlist : RawNetlist) (seed limit : ℕ) (pass fail : List ℕ) (verdict : SimVerdict) (cycle : ℕ) (alike : AreAlike a b) → Told (setting_of a (tree_of alike.trees) netlist) (start_of a (tree_of alike.trees) netlist (generator seed)) limit pass fail verdict cycle
    → Told (setting_of b (tree_of alike.others) netlist) (start_of b (tree_of alike.others) netlist (generator seed)) limit pass fail verdict cycle
told_alike a b netlist seed limit pass fail verdict cycle alike told =
    subst (λ (s : State). Told (setting_of b (tree_of alike.others) netlist) s limit pass fail verdict cycle) (alike.starts netlist (generator seed))
    (subst (λ (g : Setting). Told g (start_of a (tree_of alike.trees) netlist (generator seed)) limit pass fail verdict cycle) (alike.settings netlist) told)

module _ (outcomes : BenchesHaveOneOutcome) (ends : BenchesEndOnce) where
  -- the bench of a test says one word of the design, and ends in one cycle
  same_told : (d : Prepared) (plan : IsPlan d) (a b : Parts) (limit : ℕ) (pass fail : List ℕ) (x y : SimVerdict) (n m : ℕ) → AreAlike a b → IsRunnable b → FitsDesign b d.netlist
      → Says (design_run d a) limit pass fail x → EndsIn (design_run d a) limit n → Says (design_run d b) limit pass fail y → EndsIn (design_run d b) limit m → (x ≡ y) × (n ≡ m)
  same_told d plan a b limit pass fail x y n m alike runs fits says takes other_says other_takes =
      let run = plan.made.design.elaborated.has_netlist.runnable in
      let made : Plan = record { raw = d.netlist; order = run.0; nets = run.1 } in
      let g : Setting = setting_of b (tree_of alike.others) d.netlist in
      let start : State = start_of b (tree_of alike.others) d.netlist (generator d.word_seed) in
      let one : Told g start limit pass fail x n = told_alike a b d.netlist d.word_seed limit pass fail x n alike (told_of (design_run d a) limit pass fail x n b alike says takes) in
      let two : Told g start limit pass fail y m = told_by_other (design_run d b) limit pass fail y m a alike other_says other_takes in
      let outcome : one.says.outcome ≡ two.says.outcome = outcomes b (tree_of alike.others) made (generator d.word_seed) (phases_of limit) one.says.outcome two.says.outcome runs run.2 fits one.says.simulated two.says.simulated in
      let once : GoesOnOnce g start = λ k before t u v e less all some phase. ends b (tree_of alike.others) made (generator d.word_seed) k before t u v e runs run.2 fits less all some phase in
      (one_word two.says.outcome pass fail x y (subst (λ (o : Outcome). IsWord o pass fail x) outcome one.says.word) two.says.word, cycle_once g start limit n m once one.takes two.takes)

  -- baselines of one test of campaigns that are the same but for parts of their benches
  one_baseline : (d : Prepared) (trials : List Trial) (cycles limit : ℕ) (x y : Baseline) → IsPlan d → SameTests (slice_get trials y.test) (slice_get d.trials y.test) → IsBaseline (record d { trials = trials; cycles = cycles }) limit x → IsBaseline d limit y → x.test ≡ y.test → x ≡ y
  one_baseline d trials cycles limit x y plan tests h k test =
      let here : slice_get trials y.test ≡ Some (Simulation h.bench h.pass h.fail) = ap (λ (t : ℕ). slice_get trials t) (sym test) ∙ h.test in
      let same : SameTests (Some (Simulation h.bench h.pass h.fail)) (Some (Simulation k.bench k.pass k.fail)) = subst (λ (o : Option Trial). SameTests (Some (Simulation h.bench h.pass h.fail)) o) k.test (subst (λ (o : Option Trial). SameTests o (slice_get d.trials y.test)) here tests) in
      let says : Says (design_run d h.bench) limit k.pass k.fail x.verdict = subst (λ (f : List ℕ). Says (design_run d h.bench) limit k.pass f x.verdict) same.2 (subst (λ (p : List ℕ). Says (design_run d h.bench) limit p h.fail x.verdict) same.1 h.says) in
      let told = same_told d plan h.bench k.bench limit k.pass k.fail x.verdict y.verdict x.cycles y.cycles same.0 (plan_runs d y.test k.bench k.pass k.fail plan k.test) (plan_fits d y.test k.bench k.pass k.fail plan k.test) says h.takes k.says k.takes in
      let verdict : x.verdict ≡ y.verdict = told.0 in
      let cycles : x.cycles ≡ y.cycles = told.1 in
      λ i. record { test = test i; verdict = verdict i; cycles = cycles i }

  -- All of them.

  empty_is_not : (n : ℕ) (ns : List ℕ) → [] ≡ n ∷ ns → ⊥
  empty_is_not n ns same = absurd cc

  abbrev first_of : List ℕ → ℕ
  first_of [] = 0
  first_of (n ∷ ns) = n

  abbrev rest_of : List ℕ → List ℕ
  rest_of [] = []
  rest_of (n ∷ ns) = ns

  one_list : (d : Prepared) (trials : List Trial) (cycles limit : ℕ) (xs ys : List Baseline) → IsPlan d → ((t : ℕ) → SameTests (slice_get trials t) (slice_get d.trials t)) → All (IsBaseline (record d { trials = trials; cycles = cycles }) limit) xs → All (IsBaseline d limit) ys
      → map (λ (b : Baseline). b.test) xs ≡ map (λ (b : Baseline). b.test) ys → xs ≡ ys
  one_list d trials cycles limit [] [] plan tests h k same = refl
  one_list d trials cycles limit [] (y ∷ ys) plan tests h k same = absurd (empty_is_not y.test (map (λ (b : Baseline). b.test) ys) same)
  one_list d trials cycles limit (x ∷ xs) [] plan tests h k same = absurd (empty_is_not x.test (map (λ (b : Baseline). b.test) xs) (sym same))
  one_list d trials cycles limit (x ∷ xs) (y ∷ ys) plan tests h k same =
      let test : x.test ≡ y.test = ap first_of same in
      let rest : map (λ (b : Baseline). b.test) xs ≡ map (λ (b : Baseline). b.test) ys = ap rest_of same in
      let first : x ≡ y = one_baseline d trials cycles limit x y plan (tests y.test) (All-head (IsBaseline (record d { trials = trials; cycles = cycles }) limit) x xs h) (All-head (IsBaseline d limit) y ys k) test in
      let others : xs ≡ ys = one_list d trials cycles limit xs ys plan tests (All-tail (IsBaseline (record d { trials = trials; cycles = cycles }) limit) x xs h) (All-tail (IsBaseline d limit) y ys k) rest in
      λ i. first i ∷ others i

  -- the same tests are simulations
  sim_same : (t : ℕ) (x y : Option Trial) → SameTests x y → sim_at t x ≡ sim_at t y
  sim_same t None None same = refl
  sim_same t (Some Equality) (Some Equality) same = refl
  sim_same t (Some (Simulation a p f)) (Some (Simulation b q g)) same = refl
  sim_same t None (Some y) same = absurd same
  sim_same t (Some Equality) None same = absurd same
  sim_same t (Some Equality) (Some (Simulation b q g)) same = absurd same
  sim_same t (Some (Simulation a p f)) None same = absurd same
  sim_same t (Some (Simulation a p f)) (Some Equality) same = absurd same

  sims_same : (xs ys : List Trial) (n : ℕ) → ((t : ℕ) → SameTests (slice_get xs t) (slice_get ys t)) → sims_below xs n ≡ sims_below ys n
  sims_same xs ys zero same = refl
  sims_same xs ys (suc n) same =
      let before : sims_below xs n ≡ sims_below ys n = sims_same xs ys n same in
      let last : sim_at n (slice_get xs n) ≡ sim_at n (slice_get ys n) = sim_same n (slice_get xs n) (slice_get ys n) (same n) in
      λ i. before i ++ last i

  pub baselines_once : BaselinesAreOne
  baselines_once c d limit list others one two meta are other_are =
      let same : IsSame c d = plan_once c d one two meta in
      let kinds : length c.campaign.kinds ≡ length d.campaign.kinds = ap (λ (p : Prepared). length p.campaign.kinds) same.0 in
      let long : length c.trials ≡ length d.trials = sym (plan_trials c one) ∙ kinds ∙ plan_trials d two in
      let tests : sims_below c.trials (length c.trials) ≡ sims_below d.trials (length d.trials) = ap (λ (n : ℕ). sims_below c.trials n) long ∙ sims_same c.trials d.trials (length d.trials) same.1 in
      let each : All (IsBaseline (record d { trials = c.trials; cycles = c.cycles }) limit) list = subst (λ (p : Prepared). All (IsBaseline p limit) list) same.0 are.each in
      one_list d c.trials c.cycles limit list others two same.1 each other_are.each (are.tests_are ∙ tests ∙ sym other_are.tests_are)
