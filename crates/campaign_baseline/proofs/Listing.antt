-- One test more.
use Rattle.campaign_baseline.proofs.Common.{◌≡◌, ◌∙◌, ℕ, ◌+◌, subst, List, [], ◌∷◌, ◌++◌, slice_get, Option, Some, refl, sym, ap, add-one, append-nil, map-append, All-push, Parts, Says, Prepared}
use Rattle.campaign_baseline.proofs.Common.{Trial, Equality, Simulation, Baseline, design_run, sim_at, sims_below, AreBaselines, EndsIn, IsBaseline}

-- what its bench says of the design is its baseline
pub baseline_is : (c : Prepared) (limit t : ℕ) (b : Baseline) (bench : Parts) (pass fail p f : List ℕ) → slice_get c.trials t ≡ Some (Simulation bench pass fail) → b.test ≡ t → p ≡ pass → f ≡ fail → Says (design_run c bench) limit p f b.verdict → EndsIn (design_run c bench) limit b.cycles → IsBaseline c limit b
baseline_is c limit t b bench pass fail p f at is pass_is fail_is says takes = record {
  bench = bench;
  pass = pass;
  fail = fail;
  test = ap (λ (n : ℕ). slice_get c.trials n) is ∙ at;
  says = subst (λ (q : List ℕ). Says (design_run c bench) limit q fail b.verdict) pass_is (subst (λ (g : List ℕ). Says (design_run c bench) limit p g b.verdict) fail_is says);
  takes = takes;
}

-- the numbers, with those of one test more
sims_more : (trials : List Trial) (t : ℕ) → sims_below trials (t + 1) ≡ sims_below trials t ++ sim_at t (slice_get trials t)
sims_more trials t = rw add-one refl

-- an equality has no baseline
pub list_same : (c : Prepared) (limit t : ℕ) (list : List Baseline) → AreBaselines c limit t list → slice_get c.trials t ≡ Some Equality → AreBaselines c limit (t + 1) list
list_same c limit t list are at = record {
  each = are.each;
  tests_are = are.tests_are ∙ sym (append-nil (sims_below c.trials t)) ∙ ap (λ (o : Option Trial). sims_below c.trials t ++ sim_at t o) (sym at) ∙ sym (sims_more c.trials t);
}

-- a simulation has its own
pub list_more : (c : Prepared) (limit t : ℕ) (list : List Baseline) (b : Baseline) (bench : Parts) (pass fail : List ℕ) → AreBaselines c limit t list → slice_get c.trials t ≡ Some (Simulation bench pass fail) → b.test ≡ t → IsBaseline c limit b → AreBaselines c limit (t + 1) (list ++ b ∷ [])
list_more c limit t list b bench pass fail are at is baseline = record {
  each = All-push (IsBaseline c limit) list b are.each baseline;
  tests_are = map-append (λ (x : Baseline). x.test) list (b ∷ []) ∙ ap (λ (l : List ℕ). l ++ b.test ∷ []) are.tests_are ∙ ap (λ (n : ℕ). sims_below c.trials t ++ n ∷ []) is
      ∙ ap (λ (o : Option Trial). sims_below c.trials t ++ sim_at t o) (sym at) ∙ sym (sims_more c.trials t);
}
