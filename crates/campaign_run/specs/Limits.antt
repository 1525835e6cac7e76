-- What follows from the baselines of a campaign for its tests.
use Rattle.std.specs.Prelude.{◌≡◌, ◌⊎◌, ℕ, true, false, List, length, if◌then◌else◌}
use Rattle.campaign_plan.specs.declared.prepared.Prepared.{Prepared}
use Rattle.campaign_plan.specs.Campaigns.{IsPlan}
use Rattle.campaign_run.specs.declared.baseline.Baseline.{Baseline}
use Rattle.campaign_run.specs.Baselines.{auto_cycles, AllPass, AreBaselines}

-- the limit of cycles of the design itself: that of the project, and 100,000 where the limit of a mutant is to follow from it
abbrev pub baseline_limit : Prepared → ℕ
baseline_limit c = if c.auto_cycles then 100000 else c.cycles

-- the baselines of a campaign: one of each simulation, in the order of the tests, by the definition of its bench with the design
abbrev pub HasBaselines : Prepared → List Baseline → Type 0
HasBaselines c list = AreBaselines c (baseline_limit c) (length c.trials) list

-- the project asks that each bench passes with the design
abbrev pub AsksBaselines : Prepared → Type 0
AsksBaselines c = (c.baseline ≡ true) ⊎ (c.auto_cycles ≡ true)

-- and one does not
abbrev pub FailsBaselines : Prepared → Type 0
FailsBaselines c = AsksBaselines c × ((list : List Baseline) × HasBaselines c list × (¬ AllPass list))

-- or each does
abbrev pub PassesBaselines : Prepared → Type 0
PassesBaselines c = AsksBaselines c → (list : List Baseline) × HasBaselines c list × AllPass list

-- The limit of cycles is the one that follows from the baselines, which all pass, where the project says so.
abbrev pub HasItsLimit : Prepared → Type 0
HasItsLimit c = c.auto_cycles ≡ true → (list : List Baseline) × HasBaselines c list × AllPass list × (c.cycles ≡ auto_cycles list)

-- a campaign whose tests can be run
pub record IsTestable (c : Prepared) : Type 0 where
  pub plan : IsPlan c
  pub limit : HasItsLimit c

-- With this limit the campaign can be run: its baselines pass where the project asks for it.
pub record IsLimitOf (c : Prepared) (cycles : ℕ) : Type 0 where
  pub passes : PassesBaselines (record c { cycles = cycles })
  pub limit : HasItsLimit (record c { cycles = cycles })
  pub same : c.auto_cycles ≡ false → cycles ≡ c.cycles

-- For proofs alone.

-- the limit by these baselines
abbrev pub cycles_by : Prepared → List Baseline → ℕ
cycles_by c list = if c.auto_cycles then auto_cycles list else c.cycles
