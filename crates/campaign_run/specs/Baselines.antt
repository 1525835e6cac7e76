-- What the benches of a campaign say of the design itself.
use Rattle.std.specs.Prelude.{◌≡◌, ◌≢◌, ℕ, ◌-◌, ◌*◌, ◌≤◌, List, [], ◌∷◌, ◌++◌, zero, suc, map, fold, max, min, slice_get, Option, None, Some, All}
use Rattle.tb_machine.specs.Simulations.{phases_of}
use Rattle.tb_bench.specs.declared.parts.Parts.{Parts}
use Rattle.tb_runner.specs.Simulated.{Simulated, Ends, GoesOn, Says}
use Rattle.tb_turns.specs.declared.verdict.SimVerdict.TheVariants.{Pass}
use Rattle.campaign_plan.specs.declared.prepared.Prepared.{Prepared}
use Rattle.campaign_plan.specs.declared.trial.Trial.{Trial}
use Rattle.campaign_plan.specs.declared.trial.Trial.TheVariants.{Equality, Simulation}
use Rattle.campaign_run.specs.declared.baseline.Baseline.{Baseline}

-- the bench with the design at its instance, from the project's seed
abbrev pub design_run : Prepared → Parts → Simulated
design_run c bench = record { bench = bench; netlist = c.netlist; seed = c.word_seed }

-- The simulation ends in this cycle, counted from 1: it goes on through all before it, and `$finish` or the limit of cycles or of
-- statements is met by its end. What ends before the first cycle ends in it.
pub record EndsIn (x : Simulated) (limit cycle : ℕ) : Type 0 where
  pub some : 1 ≤ cycle
  pub few : cycle ≤ max limit 1
  pub before : cycle ≢ 1 → GoesOn x (phases_of (cycle - 1))
  pub ends : Ends x limit (phases_of cycle)

-- The bench of its test says this word of the design, under this limit of cycles, and ends in this cycle.
pub record IsBaseline (c : Prepared) (limit : ℕ) (b : Baseline) : Type 0 where
  pub bench : Parts
  pub pass : List ℕ
  pub fail : List ℕ
  pub test : slice_get c.trials b.test ≡ Some (Simulation bench pass fail)
  pub says : Says (design_run c bench) limit pass fail b.verdict
  pub takes : EndsIn (design_run c bench) limit b.cycles

-- this number, if the test is a simulation
abbrev pub sim_at : ℕ → Option Trial → List ℕ
sim_at t None = []
sim_at t (Some Equality) = []
sim_at t (Some (Simulation bench pass fail)) = t ∷ []

-- the numbers of the simulations among the first so many tests
abbrev pub sims_below : List Trial → ℕ → List ℕ
sims_below trials zero = []
sims_below trials (suc n) = sims_below trials n ++ sim_at n (slice_get trials n)

-- the baselines of the first so many tests, under this limit: one of each simulation, in the order of the tests
pub record AreBaselines (c : Prepared) (limit tests : ℕ) (list : List Baseline) : Type 0 where
  pub each : All (IsBaseline c limit) list
  pub tests_are : map (λ (b : Baseline). b.test) list ≡ sims_below c.trials tests

-- the greatest number of cycles, 0 where there is no baseline
abbrev pub greatest : List Baseline → ℕ
greatest list = fold (λ (n : ℕ) (b : Baseline). max n b.cycles) 0 list

-- ten times that, from 1 to 1,000,000
abbrev pub auto_cycles : List Baseline → ℕ
auto_cycles list = min (max (10 * greatest list) 1) 1000000

-- each passes
abbrev pub AllPass : List Baseline → Type 0
AllPass list = All (λ (b : Baseline). b.verdict ≡ Pass) list
