-- What holds of a node that has settled, and of the first nodes of an order.
use Rattle.std.specs.Prelude.{◌≡◌, ℕ, ◌<◌, ◌≤◌, ◌^◌, true, false, List, [], map, length, slice_get, slice_index, slice_index_or, Option, Some}
use Rattle.std.specs.List.{All, Contains}
use Rattle.netlist_core.specs.declared.bit.Bit.{Bit}
use Rattle.netlist_core.specs.declared.raw.RawNetlist.{RawNetlist}
use Rattle.netlist_core.specs.Runs.{bits_at, plain, shown, Nets as Values, Holds as IsCycle}
use Rattle.vlog_meaning.specs.Scopes.{Names, AreWithin}
use Rattle.tb_machine.specs.declared.update.Update.{Update}
use Rattle.tb_machine.specs.Worlds.{some_gives}
use Rattle.tb_machine.specs.Phases.{Hold, bit_of}
use Rattle.cycle_sim.specs.Simulated.{Simulated}
use Rattle.tb_assigns.specs.Checks.{can_assign}
use Rattle.tb_plans.specs.declared.transfer.Transfer.{Transfer}
use Rattle.tb_plans.specs.Transfers.{OfTransfer}
use Rattle.tb_nets.specs.declared.node.NetNode.{NetNode}
use Rattle.tb_nets.specs.declared.node.NetNode.TheVariants.{Assign, Design}
use Rattle.tb_settling.specs.Settling.{assign_updates, values_at, whole_updates}

-- the signals of ports are as wide as these, and are among those that there are
pub record PortsFit (widths numbers : List ℕ) (ports : List (List Bit)) : Type 0 where
  pub widths_are : map (slice_index widths) numbers ≡ map length ports
  pub known : All (λ k. k < length widths) numbers

-- values of signals, of which each has 1 to 128 bits
pub record IsStore (names : Names) (widths store : List ℕ) : Type 0 where
  pub long : length store ≡ length widths
  pub some : (n : ℕ) → n < length widths → 1 ≤ slice_index widths n
  pub most : (n : ℕ) → slice_index widths n ≤ 128
  pub within : AreWithin names (λ n. slice_index store n)
  pub narrow : (n : ℕ) → slice_index store n < 2 ^ 128

-- For proofs alone.

-- The names that expressions see, the signals at the design's ports, the phase, the design and its registers.
pub record Situation : Type 0 where
  pub names : Names
  pub inputs : List ℕ
  pub outputs : List ℕ
  pub phase : ℕ
  pub netlist : RawNetlist
  pub registers : List ℕ

abbrev pub situation : Names → List ℕ → List ℕ → ℕ → Simulated → Situation
situation names inputs outputs phase sim = record { names = names; inputs = inputs; outputs = outputs; phase = phase; netlist = sim.plan.raw; registers = sim.registers }

-- what a signal gets that stands for a port
abbrev pub whole_update : List ℕ → List (List Bit) → List ℕ → ℕ → Update
whole_update numbers ports values k = record { signal = slice_index numbers k; low = 0; width = length (slice_index_or ports k []); value = slice_index values k }

-- an assign can be carried out
abbrev pub IsSide : Names → NetNode → Type 0
IsSide names (Assign a) = can_assign names a ≡ true
IsSide names Design = Unit {0}

-- the plan, where there is one, is of the assign
abbrev pub IsOfNode : Names → NetNode → Option Transfer → Type 0
IsOfNode names (Assign a) plan = OfTransfer names a plan
IsOfNode names Design plan = Unit {0}

-- the updates of a node, from the store and the values of the design's nets
abbrev pub node_updates : Situation → Values → List ℕ → NetNode → List Update
node_updates s values store (Assign a) = assign_updates s.names a s.phase store
node_updates s values store Design = whole_updates s.outputs (bits_at s.netlist.outputs) (shown (plain values) s.netlist)

-- the values are those of the design's nets in a cycle with what stands at its inputs
abbrev pub IsCycleOf : Situation → Values → List ℕ → NetNode → Type 0
IsCycleOf s values store (Assign a) = Unit {0}
IsCycleOf s values store Design = IsCycle (plain values) values s.netlist (values_at s.inputs store) s.registers

-- a node has settled
pub record HasSettled (s : Situation) (values : Values) (store : List ℕ) (node : NetNode) : Type 0 where
  pub cycle : IsCycleOf s values store node
  pub holds : Hold store (node_updates s values store node)

-- The nodes at these places have settled, and what they do not give a value is as it was.
pub record HaveSettled (s : Situation) (nodes : List NetNode) (places : List ℕ) (values : Values) (before store : List ℕ) : Type 0 where
  pub each : (c : ℕ) (node : NetNode) → Contains places c → slice_get nodes c ≡ Some node → HasSettled s values store node
  pub kept : (n i : ℕ) → ((c : ℕ) (node : NetNode) → Contains places c → slice_get nodes c ≡ Some node → some_gives (node_updates s values store node) n i ≡ false) → bit_of (slice_index store n) i ≡ bit_of (slice_index before n) i
