-- The simulation of a bench with a design at its instance, where `$random` begins at a seed.
use Rattle.std.specs.Prelude.{◌≡◌, ℕ, List}
use Rattle.netlist_core.specs.declared.raw.RawNetlist.{RawNetlist}
use Rattle.vlog_syntax.specs.declared.stmt.Stmt.{Stmt}
use Rattle.tb_machine.specs.Nodes.{IsCode, tree_of}
use Rattle.tb_machine.specs.Phases.{Setting, State}
use Rattle.tb_machine.specs.Simulations.{Outcome, IsSimulation, Reaches, phases_of}
use Rattle.tb_bench.specs.declared.parts.Parts.{Parts}
use Rattle.tb_bench.specs.Settings.{setting_of, start_of}
use Rattle.tb_process.specs.Running.{Running, Stands, generator}
use Rattle.tb_turns.specs.declared.verdict.SimVerdict.{SimVerdict}
use Rattle.tb_turns.specs.Reached.{MeetsEnd}
use Rattle.tb_turns.specs.Verdicts.{IsVerdict}

-- A bench, a design, and a seed.
pub record Simulated : Type 0 where
  pub bench : Parts
  pub netlist : RawNetlist
  pub seed : ℕ

-- its setting and its start, by the statements that the code of the bench stands for
abbrev pub setting : Simulated → List Stmt → Setting
setting x trees = setting_of x.bench (tree_of trees) x.netlist

abbrev pub start : Simulated → List Stmt → State
start x trees = start_of x.bench (tree_of trees) x.netlist (generator x.seed)

-- what it comes to, with a limit of cycles
abbrev pub ComesTo : Simulated → ℕ → Outcome → Type 0
ComesTo x cycles o = (trees : List Stmt) → IsCode x.bench.code trees → IsSimulation (setting x trees) (phases_of cycles) (start x trees) o

-- so many of its phases go on
abbrev pub GoesOn : Simulated → ℕ → Type 0
GoesOn x phases = (trees : List Stmt) → IsCode x.bench.code trees → (t : State) × Reaches (setting x trees) phases (start x trees) t

-- `$finish` or the limit of cycles is met within so many phases
abbrev pub Ends : Simulated → (limit phases : ℕ) → Type 0
Ends x limit phases = (trees : List Stmt) → IsCode x.bench.code trees → MeetsEnd (setting x trees) (start x trees) limit phases

-- the word of the simulation, by its pass text and its fail text
abbrev pub Says : Simulated → (limit : ℕ) → (pass fail : List ℕ) → SimVerdict → Type 0
Says x limit pass fail verdict = (trees : List Stmt) → IsCode x.bench.code trees → IsVerdict (setting x trees) (start x trees) limit pass fail verdict

-- For proofs alone.

-- the run stands at this state, in the setting that statements of the code give
abbrev pub StandsIn : Parts → Running → Setting → State → Type 0
StandsIn b r g s = (trees : List Stmt) × IsCode b.code trees × (g ≡ setting_of b (tree_of trees) r.sim.plan.raw) × Stands b (tree_of trees) r s
