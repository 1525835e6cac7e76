-- What the parts of a bench and a design mean: the setting of their simulations.
use Rattle.std.specs.Prelude.{ℕ, List, [], map, slice_set}
use Rattle.rand_pcg.specs.Lcg.{Lcg}
use Rattle.netlist_core.specs.declared.raw.RawNetlist.{RawNetlist}
use Rattle.netlist_core.specs.Runs.{bits_at}
use Rattle.cycle_sim.specs.Simulated.{starts_of}
use Rattle.vlog_meaning.specs.Scopes.{Names, names_of}
use Rattle.tb_machine.specs.declared.event.Event.{Event}
use Rattle.tb_machine.specs.declared.event.Event.TheVariants.{Start, Rise, Fall}
use Rattle.tb_machine.specs.Steps.{Suspended}
use Rattle.tb_machine.specs.Phases.{Setting, State, event_of_phase}
use Rattle.tb_machine.specs.Nodes.{Tree}
use Rattle.tb_code.specs.Codes.{waiting}
use Rattle.tb_evaluator.specs.Meanings.{meaning}
use Rattle.tb_settling.specs.Settling.{assigns_of, values_at, whole_updates}
use Rattle.tb_bench.specs.declared.parts.Waiting.{Waiting}
use Rattle.tb_bench.specs.declared.parts.Clock.{Clock}
use Rattle.tb_bench.specs.declared.parts.Parts.{Parts}

-- the names that the expressions of a bench see
abbrev pub names : Parts → Names
names b = names_of b.scope

-- a process, before anything of it is carried out
abbrev pub begun : Tree → Waiting → Suspended
begun tree p = waiting p.event (tree p.body)

-- the widths of the signals
abbrev pub widths : Parts → List ℕ
widths b = map (λ w. w.width) b.starts

-- the store in which the clock has its new value: it stays as it is where the simulation starts, is high where it rises, and
-- 0 where it falls
abbrev pub with_clock : Clock → Event → List ℕ → List ℕ
with_clock c Start store = store
with_clock c Rise store = slice_set store c.signal c.high.bits
with_clock c Fall store = slice_set store c.signal 0

-- the bench with this design at its instance, whose statements are those of the tree by their numbers
abbrev pub setting_of : Parts → Tree → RawNetlist → Setting
setting_of b tree netlist = record {
  meaning = meaning (names b);
  always = map (begun tree) b.always;
  widths = widths b;
  clocked = λ phase. with_clock b.clock (event_of_phase phase);
  netlist = netlist;
  inputs = values_at b.inputs;
  outputs = whole_updates b.outputs (bits_at netlist.outputs);
  assigns = assigns_of (names b) b.nets.nodes;
}

-- Where a simulation starts: signals and registers have their start values, and the `initial` processes wait for the start.
abbrev pub start_of : Parts → Tree → RawNetlist → Lcg → State
start_of b tree netlist words = record { phase = 0; store = map (λ w. w.bits) b.starts; registers = starts_of netlist; next = starts_of netlist; initial = map (begun tree) b.initial; words = words; text = [] }
