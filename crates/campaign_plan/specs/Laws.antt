-- Laws of campaigns: files are refused for one cause or make a campaign, that is one, and it can be kept and run.
use Rattle.std.specs.Prelude.{◌≡◌, ℕ, ◌<◌, ◌≤◌, false, List, length, get_or, slice_get, Option, None, Some, ⊤}
use Rattle.netlist_core.specs.Checked.{free_bits, net_bits}
use Rattle.mutation_sites.specs.declared.site.Site.{Site}
use Rattle.mutation_sites.specs.Mutants.{IsSite}
use Rattle.pair_gates.specs.Refusals.{max_free}
use Rattle.pair_gates.specs.Weights.{design_gates, max_design_gates}
use Rattle.result_book.specs.Campaigns.{eq_kind, sim_kind, IsFit}
use Rattle.tb_bench.specs.declared.parts.Parts.{Parts}
use Rattle.tb_bench.specs.Runnable.{FitsDesign}
pub use Rattle.project_benches.specs.Laws.{AreAlike}
use Rattle.campaign_plan.specs.declared.prepared.Prepared.{Prepared}
use Rattle.campaign_plan.specs.declared.trial.Trial.{Trial}
use Rattle.campaign_plan.specs.declared.trial.Trial.TheVariants.{Equality, Simulation}
use Rattle.campaign_plan.specs.Campaigns.{IsPlan}

-- One campaign.

-- tests that are the same but for parts of their benches, which are alike
abbrev pub SameTests : Option Trial → Option Trial → Type 0
SameTests None None = ⊤
SameTests (Some Equality) (Some Equality) = ⊤
SameTests (Some (Simulation a p f)) (Some (Simulation b q g)) = AreAlike a b × (p ≡ q) × (f ≡ g)
SameTests x y = ⊥

-- campaigns that are the same but for parts of their benches, which are alike, and for their limits of cycles where these follow from
-- the benches
abbrev pub IsSame : Prepared → Prepared → Type 0
IsSame c d = (c ≡ record d { trials = c.trials; cycles = c.cycles }) × ((t : ℕ) → SameTests (slice_get c.trials t) (slice_get d.trials t)) × (c.auto_cycles ≡ false → c.cycles ≡ d.cycles)

-- Campaigns with the same meta, which has the project and its sources, are the same.
abbrev pub SourcesMakeOneCampaign : Type 0
SourcesMakeOneCampaign = (c d : Prepared) → IsPlan c → IsPlan d → c.campaign.meta ≡ d.campaign.meta → IsSame c d

-- What holds of each campaign.

-- A book can keep it.
abbrev pub CampaignsFit : Type 0
CampaignsFit = (c : Prepared) → IsPlan c → IsFit c.campaign × (length c.campaign.meta ≤ 66)

-- Each mutation has its site, where the netlist has a bit, and the netlist has few cells and bits.
abbrev pub MutationsHaveSites : Type 0
MutationsHaveSites = (c : Prepared) → IsPlan c
    → (length c.campaign.mutations ≡ length c.sites) × ((m : ℕ) (d : Site) → m < length c.sites → IsSite c.netlist (get_or c.sites m d)) × (length c.netlist.cells ≤ 65535) × (net_bits c.netlist ≤ 1048576)

-- the kind that a campaign has for a test, by how it is run
abbrev pub code_of : Trial → ℕ
code_of Equality = eq_kind
code_of (Simulation bench pass fail) = sim_kind

-- There are as many tests as the campaign has kinds, and each is of its kind.
abbrev pub TestsHaveKinds : Type 0
TestsHaveKinds = (c : Prepared) → IsPlan c → (length c.campaign.kinds ≡ length c.trials) × ((t : ℕ) (trial : Trial) → slice_get c.trials t ≡ Some trial → slice_get c.campaign.kinds t ≡ Some (code_of trial))

-- Where a test is an equality, the netlist has few free bits and few gates, and the test has 1 to 100,000 lemmas at first.
abbrev pub EqualitiesAreFew : Type 0
EqualitiesAreFew = (c : Prepared) (t : ℕ) → IsPlan c → slice_get c.trials t ≡ Some Equality
    → (free_bits c.netlist ≤ max_free) × (design_gates c.netlist ≤ max_design_gates) × (1 ≤ c.campaign.conflicts) × (c.campaign.conflicts ≤ 100000)

-- The bench of a test fits the design.
abbrev pub BenchesFit : Type 0
BenchesFit = (c : Prepared) (t : ℕ) (bench : Parts) (pass fail : List ℕ) → IsPlan c → slice_get c.trials t ≡ Some (Simulation bench pass fail) → FitsDesign bench c.netlist
