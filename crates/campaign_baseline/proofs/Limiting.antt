-- The limit of cycles that follows from baselines.
use Rattle.campaign_baseline.proofs.Common.{◌≡◌, ◌∙◌, inl, inr, ℕ, Bool, true, false, List, length, refl, sym, ap, subst, if◌then◌else◌, cases_Bool, All-weaker, Prepared, IsPlan, IsSame, plan_once}
use Rattle.campaign_baseline.proofs.Common.{Baseline, auto_cycles, AllPass, AreBaselines, IsBaseline, BaselinesAreOne}
use Rattle.campaign_plan.proofs.Limits.{plan_limited}
use Rattle.campaign_run.specs.Limits.{baseline_limit, cycles_by, AsksBaselines, FailsBaselines, HasBaselines, HasItsLimit, IsTestable, IsLimitOf}

-- a choice that is known
chosen : (b : Bool) (n m : ℕ) → b ≡ true → (if b then n else m) ≡ n
chosen true n m is = refl
chosen false n m is = absurd (let never : false ≡ true = is in cc)

not_chosen : (b : Bool) (n m : ℕ) → b ≡ false → (if b then n else m) ≡ m
not_chosen true n m is = absurd (let never : true ≡ false = is in cc)
not_chosen false n m is = refl

-- the baselines do not depend on the limit of mutants: where it follows from them, and else it is the same
limited_baselines : (c : Prepared) (cycles : ℕ) (list : List Baseline) → c.auto_cycles ≡ true → HasBaselines c list → HasBaselines (record c { cycles = cycles }) list
limited_baselines c cycles list auto are =
    let limit : ℕ = if c.auto_cycles then 100000 else cycles in
    let same : baseline_limit c ≡ limit = chosen c.auto_cycles 100000 c.cycles auto ∙ sym (chosen c.auto_cycles 100000 cycles auto) in
    let moved : AreBaselines c limit (length c.trials) list = subst (λ (n : ℕ). AreBaselines c n (length c.trials) list) same are in
    record {
      each = All-weaker (IsBaseline c limit) (IsBaseline (record c { cycles = cycles }) limit) (λ b is. record { bench = is.bench; pass = is.pass; fail = is.fail; test = is.test; says = is.says; takes = is.takes }) list moved.each;
      tests_are = moved.tests_are;
    }

moved_baselines : (c : Prepared) (cycles : ℕ) (list : List Baseline) → (c.auto_cycles ≡ false → cycles ≡ c.cycles) → HasBaselines c list → HasBaselines (record c { cycles = cycles }) list
moved_baselines c cycles list fixed are = elim (cases_Bool c.auto_cycles) [
  | inl auto ↦ limited_baselines c cycles list auto are
  | inr not_auto ↦ subst (λ (n : ℕ). HasBaselines (record c { cycles = n }) list) (sym (fixed not_auto)) are
]

-- where the project asks for none
pub limit_plainly : (c : Prepared) → (¬ AsksBaselines c) → IsLimitOf c c.cycles
limit_plainly c none = record {
  passes = λ asks. absurd (none asks);
  limit = λ auto. absurd (none (inr auto));
  same = λ fixed. refl;
}

-- where the project says it
pub plain_limit : (c : Prepared) → c.auto_cycles ≡ false → HasItsLimit c
plain_limit c fixed auto = let never : false ≡ true = sym fixed ∙ auto in absurd cc

-- and where they pass
pub limit_by : (c : Prepared) (list : List Baseline) (cycles : ℕ) (read : List Baseline) → read ≡ list → cycles ≡ cycles_by c read → HasBaselines c list → AllPass list → IsLimitOf c cycles
limit_by c list cycles read same is are all =
    let by : cycles ≡ cycles_by c list = is ∙ ap (cycles_by c) same in
    let fixed : (c.auto_cycles ≡ false → cycles ≡ c.cycles) = λ not_auto. by ∙ not_chosen c.auto_cycles (auto_cycles list) c.cycles not_auto in
    record {
      passes = λ asks. (list, moved_baselines c cycles list fixed are, all);
      limit = λ auto. (list, moved_baselines c cycles list fixed are, all, by ∙ chosen c.auto_cycles (auto_cycles list) c.cycles auto);
      same = fixed;
    }

-- so the campaign can be run under that limit
pub testable_by : (c : Prepared) (cycles : ℕ) → IsPlan c → IsLimitOf c cycles → IsTestable (record c { cycles = cycles })
testable_by c cycles plan own = record { plan = plan_limited c cycles own.same plan; limit = own.limit }

pub fails_by : (c : Prepared) (list : List Baseline) → AsksBaselines c → HasBaselines c list → (¬ AllPass list) → FailsBaselines c
fails_by c list asks are fails = (asks, (list, are, fails))

-- ---- one limit

-- campaigns that are the same but for their limits give the design one limit
limits_same : (c d : Prepared) → IsSame c d → baseline_limit c ≡ baseline_limit d
limits_same c d same =
    let auto : c.auto_cycles ≡ d.auto_cycles = ap (λ (p : Prepared). p.auto_cycles) same.0 in
    by c.auto_cycles d.auto_cycles auto same.2
  where
    by : (a b : Bool) → a ≡ b → (a ≡ false → c.cycles ≡ d.cycles) → (if a then 100000 else c.cycles) ≡ (if b then 100000 else d.cycles)
    by true true is fixed = refl
    by false false is fixed = fixed refl
    by true false is fixed = absurd (let never : true ≡ false = is in cc)
    by false true is fixed = absurd (let never : false ≡ true = is in cc)

-- and one list of baselines
pub lists_once : BaselinesAreOne → (c d : Prepared) (list others : List Baseline) → IsPlan c → IsPlan d → c.campaign.meta ≡ d.campaign.meta → HasBaselines c list → HasBaselines d others → list ≡ others
lists_once one c d list others plan other meta are other_are =
    let same : IsSame c d = plan_once c d plan other meta in
    one c d (baseline_limit d) list others plan other meta (subst (λ (n : ℕ). AreBaselines c n (length c.trials) list) (limits_same c d same) are) other_are

-- so the limit of a project and its sources is one
pub limit_once : BaselinesAreOne → (c d : Prepared) → IsPlan c → IsPlan d → c.campaign.meta ≡ d.campaign.meta → HasItsLimit c → HasItsLimit d → c.cycles ≡ d.cycles
limit_once one c d plan other meta h k = by c.auto_cycles refl
  where
    same : IsSame c d
    same = plan_once c d plan other meta

    by : (b : Bool) → c.auto_cycles ≡ b → c.cycles ≡ d.cycles
    by false is = same.2 is
    by true is =
        let mine = h is in
        let theirs = k (sym (ap (λ (p : Prepared). p.auto_cycles) same.0) ∙ is) in
        mine.3 ∙ ap auto_cycles (lists_once one c d mine.0 theirs.0 plan other meta mine.1 theirs.1) ∙ sym theirs.3
