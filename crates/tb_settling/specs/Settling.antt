-- What the nets of a testbench settle to: the updates of each assign, what stands at the design's inputs, and what its outputs
-- give the signals that stand for them. When nets can be settled.
use Rattle.std.specs.Prelude.{◌≡◌, ℕ, ◌<◌, true, List, [], ◌∷◌, map, length, slice_get, slice_index, Some}
use Rattle.std.specs.List.{All}
use Rattle.rand_pcg.specs.Lcg.{Lcg, started, increment_of}
use Rattle.rand_pcg.specs.Pcg.{multiplier_64}
use Rattle.netlist_core.specs.declared.bit.Bit.{Bit}
use Rattle.netlist_core.specs.declared.raw.RawNetlist.{RawNetlist}
use Rattle.netlist_core.specs.Runs.{bits_at}
use Rattle.vlog_syntax.specs.declared.stmt.Assignment.{Assignment}
use Rattle.vlog_meaning.specs.Scopes.{Names}
use Rattle.tb_machine.specs.declared.update.Update.{Update}
use Rattle.tb_machine.specs.Phases.{Setting}
use Rattle.tb_assigns.specs.Checks.{can_assign}
use Rattle.tb_assigns.specs.Updates.{updates}
use Rattle.tb_nets.specs.declared.node.NetNode.{NetNode}
use Rattle.tb_nets.specs.declared.node.NetNode.TheVariants.{Assign, Design}
use Rattle.tb_nets.specs.declared.nets.Nets.{Nets}
use Rattle.tb_nets.specs.Nets.{wiring, AreApart, IsSettled}

-- A generator. An assign draws nothing from it, so it does not matter which.
abbrev pub still : Lcg
still = started 64 multiplier_64 0 (increment_of 64 0)

-- the updates of an assign in a phase, from the store
abbrev pub assign_updates : Names → Assignment → ℕ → List ℕ → List Update
assign_updates names a phase store = (updates names phase a (λ n. slice_index store n) still).0

-- those of each assign among nodes
abbrev pub assigns_of : Names → List NetNode → List (ℕ → List ℕ → List Update)
assigns_of names [] = []
assigns_of names (Assign a ∷ more) = assign_updates names a ∷ assigns_of names more
assigns_of names (Design ∷ more) = assigns_of names more

-- the values of signals
abbrev pub values_at : List ℕ → List ℕ → List ℕ
values_at numbers store = map (slice_index store) numbers

-- signals get the values at ports, whole
abbrev pub whole_updates : List ℕ → List (List Bit) → List ℕ → List Update
whole_updates (k ∷ ks) (bits ∷ ports) (v ∷ vs) = record { signal = k; low = 0; width = length bits; value = v } ∷ whole_updates ks ports vs
whole_updates ks ports vs = []

-- the setting has these nets, with this design
pub record IsNetsOf (g : Setting) (names : Names) (inputs outputs : List ℕ) (nodes : List NetNode) (netlist : RawNetlist) : Type 0 where
  pub netlist_is : g.netlist ≡ netlist
  pub inputs_are : g.inputs ≡ values_at inputs
  pub outputs_are : g.outputs ≡ whole_updates outputs (bits_at netlist.outputs)
  pub assigns_are : g.assigns ≡ assigns_of names nodes

-- Nets in an order, where each bit has one writer, among which the design stands once; its inputs and outputs are signals.
pub record CanSettle (names : Names) (widths inputs outputs : List ℕ) (nets : Nets) : Type 0 where
  pub sides : (k : ℕ) (a : Assignment) → slice_get nets.nodes k ≡ Some (Assign a) → can_assign names a ≡ true
  pub settled : IsSettled (wiring names inputs outputs) nets
  pub apart : AreApart (wiring names inputs outputs) nets.nodes
  pub design : (k : ℕ) × (slice_get nets.nodes k ≡ Some Design) × ((j : ℕ) → slice_get nets.nodes j ≡ Some Design → j ≡ k)
  pub entered : All (λ k. k < length widths) inputs
  pub shown : All (λ k. k < length widths) outputs
