-- What a simulator keeps between its calls.
use Rattle.std.specs.Prelude.{ℕ, List}
use Rattle.netlist_core.specs.Runs.{bits_at, q_bits, d_bits}
use Rattle.netlist_core.specs.Solutions.{FitPorts, driving}
use Rattle.netlist_core.specs.Checked.{Plan, IsSound}
use Rattle.cycle_sim.specs.declared.parts.Wires.{Wires}
use Rattle.cycle_sim.specs.Parts.{AllWired}
use Rattle.cycle_sim.specs.declared.parts.Gate.{Gate}
use Rattle.cycle_sim.specs.Gates.{AllGates}
use Rattle.cycle_sim.specs.Marks.{AreReaders, IsCurrent}

-- For proofs alone.

-- Where each reader finds its bits, numbers that fit, and those that are to be computed are marked.
pub record IsSimulated (plan : Plan) (cell_gates : List Gate) (next_wires output_wires : List Wires) (readers : List (List ℕ)) (table registers marks : List ℕ) : Type 0 where
  pub sound : IsSound plan
  pub gates : AllGates (driving plan.raw) cell_gates plan.raw.cells
  pub next : AllWired (driving plan.raw) next_wires (d_bits plan.raw.registers)
  pub outputs : AllWired (driving plan.raw) output_wires (bits_at plan.raw.outputs)
  pub reading : AreReaders plan readers
  pub numbers : FitPorts (driving plan.raw) table
  pub stored : FitPorts (q_bits plan.raw.registers) registers
  pub current : IsCurrent plan table marks
