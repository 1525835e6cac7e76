-- What a run holds between two phases, and the states of a simulation at which it stands.
use Rattle.std.specs.Prelude.{◌≡◌, ℕ, ◌<◌, Bool, false, List, [], ◌++◌, length}
use Rattle.netlist_core.specs.declared.raw.RawNetlist.{RawNetlist}
use Rattle.netlist_core.specs.Runs.{plain, taken}
use Rattle.cycle_sim.specs.Simulated.{Simulated, settled_nets}
use Rattle.rand_core.specs.Pcg32Seed.{pcg32_seed}
use Rattle.rand_pcg.specs.Lcg.{Lcg}
use Rattle.rand_pcg.specs.Pcg.{pcg32_of_seed}
use Rattle.tb_machine.specs.declared.node.Process.{Process}
use Rattle.tb_machine.specs.Worlds.{World}
use Rattle.tb_machine.specs.Nodes.{Tree}
use Rattle.tb_machine.specs.Machine.{StacksBelow, all_suspended}
use Rattle.tb_machine.specs.declared.phase_end.PhaseEnd.{PhaseEnd}
use Rattle.tb_machine.specs.declared.phase_end.PhaseEnd.TheVariants.{Going}
use Rattle.tb_machine.specs.Phases.{State, IsPhase, ending_of}
use Rattle.tb_bench.specs.declared.parts.Parts.{Parts}
use Rattle.tb_bench.specs.Settings.{widths, setting_of}
use Rattle.tb_bench.specs.Runnable.{FitsDesign}

-- the number of the next phase, the design, what processes read and change, the `initial` processes, and whether a phase was
-- refused for want of memory
pub record Running : Type 0 where
  pub phase : ℕ
  pub sim : Simulated
  pub scene : World
  pub initial : List Process
  pub is_refused : Bool

-- the generator of `$random` that a seed begins
abbrev pub generator : ℕ → Lcg
generator seed = pcg32_of_seed (pcg32_seed 16 seed)

-- what stands at each D, as the nets were last settled
abbrev pub next_of : Simulated → List ℕ
next_of s = taken (plain (settled_nets s)) 0 s.plan.raw.registers

-- The design, the processes and the signals are those of the bench.
pub record IsOf (b : Parts) (r : Running) : Type 0 where
  pub design : FitsDesign b r.sim.plan.raw
  pub below : StacksBelow (length b.code) r.initial
  pub widths : r.scene.widths ≡ widths b
  pub updates : r.scene.updates ≡ []

-- a run of the bench, or one of which a phase was refused
abbrev pub CanGoOn : Parts → Running → Type 0
CanGoOn b r = r.is_refused ≡ false → IsOf b r

-- The run stands at this state of a simulation, but for the text so far, which it does not keep.
pub record Stands (b : Parts) (tree : Tree) (r : Running) (s : State) : Type 0 where
  pub phase : r.phase ≡ s.phase
  pub store : r.scene.store ≡ s.store
  pub words : r.scene.words ≡ s.words
  pub registers : r.sim.registers ≡ s.registers
  -- what stands at each D, once it has settled
  pub next : 0 < s.phase → next_of r.sim ≡ s.next
  pub initial : all_suspended b.code tree r.initial ≡ s.initial

-- A phase of the simulation leads to a state. Where it goes on, the run stands there, and what it printed is the text's end.
pub record Follows (b : Parts) (tree : Tree) (netlist : RawNetlist) (s : State) (end : PhaseEnd) (r : Running) (t : State) : Type 0 where
  pub phase : IsPhase (setting_of b tree netlist) s (ending_of end) t
  pub text : t.text ≡ s.text ++ r.scene.text
  pub stands : end ≡ Going → Stands b tree r t

-- For proofs alone.

-- a run of which no phase was refused
abbrev pub running : ℕ → Simulated → World → List Process → Running
running phase sim scene initial = record { phase = phase; sim = sim; scene = scene; initial = initial; is_refused = false }
