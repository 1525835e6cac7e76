-- What a plan's netlist is: small enough for the equivalence test where there is one, with the campaign's sites.
use Rattle.campaign_plan.proofs.Common.{◌≡◌, ℕ, zero, suc, ◌<◌, ◌≤◌, List, [], ◌∷◌, length, map, get_or, slice_get, Some, refl, sym, ◌∙◌, ap, subst, arith, length-map, Prepared, all_files, IsProject}
use Rattle.campaign_plan.proofs.Common.{Project, SourceFile, netlist_cells, Campaign, TestPlan, TestKind, Eq, Sim, kind_of, Trial, Equality, Simulation, AreTrials, IsTrial, Reading, code_of}
use Rattle.campaign_plan.proofs.Common.{file_item, meta_of, names_of, IsPlan}
use Rattle.mutation_sites.specs.declared.site.Site.{Site}
use Rattle.project_limits.proofs.Sources.{sources_few}
use Rattle.project_limits.proofs.Sizes.{conflicts_within}
use Rattle.std.specs.List.{Any}
use Rattle.result_book.specs.Campaigns.{IsFit}
use Rattle.mutation_sites.specs.SiteTexts.{site_text}
use Rattle.mutation_sites.specs.Mutants.{IsSite}
use Rattle.netlist_core.specs.Checked.{free_bits, net_bits}
use Rattle.pair_gates.specs.Refusals.{max_free}
use Rattle.pair_gates.specs.Weights.{design_gates, max_design_gates}
use Rattle.campaign_choice.proofs.Chosen.{within-size}
use Rattle.campaign_choice.proofs.Fits.{campaign_fits}

-- A test that is run as an equality is one.
trial_equality : (r : Reading) (kind : TestKind) → IsTrial r kind Equality → kind ≡ Eq
trial_equality r Eq is = refl
trial_equality r (Sim name files pass fail) is = absurd is

-- one test more in front
any_behind : (t : TestPlan) (tests : List TestPlan) → Any (λ t. t.kind ≡ Eq) tests → Any (λ t. t.kind ≡ Eq) (t ∷ tests)
any_behind t tests (k, x, within, at, is) = (suc k, x, omega (arith, within), at, is)

trials_equality : (r : Reading) (tests : List TestPlan) (trials : List Trial) (t : ℕ) → AreTrials r tests trials → slice_get trials t ≡ Some Equality → Any (λ t. t.kind ≡ Eq) tests
trials_equality r [] [] t are at = cc
trials_equality r [] (x ∷ xs) t are at = absurd are
trials_equality r (test ∷ tests) [] t are at = absurd are
trials_equality r (test ∷ tests) (x ∷ xs) zero are at =
    let same : x ≡ Equality = cc in
    (0, test, omega arith, refl, trial_equality r test.kind (subst (λ trial. IsTrial r test.kind trial) same are.0))
trials_equality r (test ∷ tests) (x ∷ xs) (suc t) are at = any_behind test tests (trials_equality r tests xs t are.1 at)

-- where a test is an equality, the design is within its limits
pub plan_limits : (c : Prepared) (t : ℕ) → IsPlan c → slice_get c.trials t ≡ Some Equality → (free_bits c.netlist ≤ max_free) × (design_gates c.netlist ≤ max_design_gates)
plan_limits c t plan at =
    let equality = trials_equality plan.made.reading plan.made.project.tests c.trials t plan.made.trials at in
    (plan.made.few.few_bits equality, plan.made.few.few_gates equality)

-- and gives this test 1 to 100,000 lemmas at first
pub plan_conflicts : (c : Prepared) → IsPlan c → (1 ≤ c.campaign.conflicts) × (c.campaign.conflicts ≤ 100000)
plan_conflicts c plan =
    let within = conflicts_within plan.config plan.made.project plan.made.says in
    let is : c.campaign.conflicts ≡ plan.made.project.conflicts = ap (λ (a : Campaign). a.conflicts) plan.made.campaign in
    (omega (arith, within.0, is), omega (arith, within.1, is))

-- it has few cells and bits
pub plan_nets : (c : Prepared) → IsPlan c → (length c.netlist.cells ≤ 65535) × (net_bits c.netlist ≤ 1048576)
plan_nets c plan = (netlist_cells plan.made.design.modules plan.made.project.top c.netlist plan.made.design.elaborated, plan.made.design.elaborated.has_netlist.within.nets)

-- there is a bit at the site of each mutation
pub plan_site : (c : Prepared) (m : ℕ) (d : Site) → IsPlan c → m < length c.sites → IsSite c.netlist (get_or c.sites m d)
plan_site c m d plan below = plan.made.placed m d below

pub plan_meta : (c : Prepared) (plan : IsPlan c) → c.campaign.meta ≡ meta_of plan.config plan.files
plan_meta c plan = ap (λ (k : Campaign). k.meta) plan.made.campaign

-- each mutation has its site
pub plan_count : (c : Prepared) → IsPlan c → length c.campaign.mutations ≡ length c.sites
plan_count c plan =
    ap (λ (k : Campaign). length k.mutations) plan.made.campaign ∙ length-map c.sites (site_text c.netlist (names_of plan.files))

pub plan_fit : (c : Prepared) → IsPlan c → IsFit c.campaign
plan_fit c plan =
    let few : length c.sites ≤ plan.made.project.size = omega (arith, ap length plan.made.places, within-size plan.made.project plan.made.omitted c.netlist) in
    subst IsFit (sym plan.made.campaign) (campaign_fits plan.config plan.made.project plan.made.script plan.made.report plan.files c.netlist c.sites plan.made.says plan.made.scripts few)

trial_kind : (r : Reading) (kind : TestKind) (trial : Trial) → IsTrial r kind trial → kind_of kind ≡ code_of trial
trial_kind r Eq Equality is = refl
trial_kind r (Sim name files pass fail) (Simulation bench p f) is = refl
trial_kind r Eq (Simulation bench p f) is = absurd is
trial_kind r (Sim name files pass fail) Equality is = absurd is

trials_kind : (r : Reading) (tests : List TestPlan) (trials : List Trial) (t : ℕ) (trial : Trial) → AreTrials r tests trials → slice_get trials t ≡ Some trial → slice_get (map (λ (t : TestPlan). kind_of t.kind) tests) t ≡ Some (code_of trial)
trials_kind r [] [] t trial are at = cc
trials_kind r [] (x ∷ xs) t trial are at = absurd are
trials_kind r (test ∷ tests) [] t trial are at = absurd are
trials_kind r (test ∷ tests) (x ∷ xs) zero trial are at =
    let same : x ≡ trial = cc in ap (λ (n : ℕ). Some n) (trial_kind r test.kind trial (subst (λ trial. IsTrial r test.kind trial) same are.0))
trials_kind r (test ∷ tests) (x ∷ xs) (suc t) trial are at = trials_kind r tests xs t trial are.1 at

-- each test as it is run is of the kind that the campaign has for it
pub plan_kind : (c : Prepared) (t : ℕ) (trial : Trial) → IsPlan c → slice_get c.trials t ≡ Some trial → slice_get c.campaign.kinds t ≡ Some (code_of trial)
plan_kind c t trial plan at = subst (λ (k : Campaign). slice_get k.kinds t ≡ Some (code_of trial)) (sym plan.made.campaign) (trials_kind plan.made.reading plan.made.project.tests c.trials t trial plan.made.trials at)

-- a project reads at most 64 files
pub files_few : (config : List ℕ) (p : Project) (files : List SourceFile) → IsProject config p → names_of files ≡ all_files p → length files ≤ 64
files_few config p files is names = subst (λ (n : ℕ). n ≤ 64) (sym (ap length names) ∙ length-map files (λ (file : SourceFile). file.name)) (sources_few config p is)

-- what a book keeps of them has few items
pub plan_items : (c : Prepared) → IsPlan c → length c.campaign.meta ≤ 66
plan_items c plan =
    let files = files_few plan.config plan.made.project plan.files plan.made.says plan.made.names in
    let kept : length c.campaign.meta ≡ length (meta_of plan.config plan.files) = ap length (plan_meta c plan) in
    omega (arith, kept, files, length-map plan.files file_item)
