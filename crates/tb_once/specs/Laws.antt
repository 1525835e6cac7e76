-- Laws of benches' simulations.
use Rattle.std.specs.Prelude.{◌≡◌, ◌<◌, ℕ, map, length}
use Rattle.rand_pcg.specs.Lcg.{Lcg}
use Rattle.netlist_core.specs.declared.raw.RawNetlist.{RawNetlist}
use Rattle.netlist_core.specs.Runs.{bits_at}
use Rattle.netlist_core.specs.Checked.{Plan, IsSound}
use Rattle.cycle_sim.specs.Simulated.{starts_of}
use Rattle.tb_machine.specs.Nodes.{Tree}
use Rattle.tb_machine.specs.Phases.{Ending, Going, IsPhase, State}
use Rattle.tb_machine.specs.Simulations.{Outcome, IsSimulation, Reaches}
use Rattle.tb_bench.specs.declared.parts.Parts.{Parts}
use Rattle.tb_bench.specs.Settings.{setting_of, start_of}
use Rattle.tb_bench.specs.Runnable.{IsRunnable, FitsDesign}

-- the simulation of a bench that can run, with a design that fits it, comes to one outcome
abbrev pub BenchesHaveOneOutcome : Type 0
BenchesHaveOneOutcome = (b : Parts) (tree : Tree) (plan : Plan) (words : Lcg) (n : ℕ) (o p : Outcome) → IsRunnable b → IsSound plan → FitsDesign b plan.raw → IsSimulation (setting_of b tree plan.raw) n (start_of b tree plan.raw words) o → IsSimulation (setting_of b tree plan.raw) n (start_of b tree plan.raw words) p → o ≡ p

-- and ends in one phase: where so many of its phases go on, the phase behind fewer of them does
abbrev pub BenchesEndOnce : Type 0
BenchesEndOnce = (b : Parts) (tree : Tree) (plan : Plan) (words : Lcg) (n before : ℕ) (t u v : State) (e : Ending) → IsRunnable b → IsSound plan → FitsDesign b plan.raw → before < n
    → Reaches (setting_of b tree plan.raw) n (start_of b tree plan.raw words) t → Reaches (setting_of b tree plan.raw) before (start_of b tree plan.raw words) u → IsPhase (setting_of b tree plan.raw) u e v → e ≡ Going

-- with designs whose outputs are as wide, the settings of a bench differ in the design alone
abbrev pub SettingsByDesign : Type 0
SettingsByDesign = (b : Parts) (tree : Tree) (one other : RawNetlist) → map length (bits_at one.outputs) ≡ map length (bits_at other.outputs) → setting_of b tree other ≡ record (setting_of b tree one) { netlist = other }

-- with designs whose registers have the same start values, its simulations start alike
abbrev pub StartsByRegisters : Type 0
StartsByRegisters = (b : Parts) (tree : Tree) (one other : RawNetlist) (words : Lcg) → starts_of one ≡ starts_of other → start_of b tree one words ≡ start_of b tree other words
