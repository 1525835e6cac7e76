-- The bench of a testbench that is not refused, and why one is refused.
use Rattle.std.specs.Prelude.{◌≡◌, ◌⊎◌, ℕ, ◌-◌, ◌^◌, ◌∷◌, [], Bool, List, map, slice_get, Option, None, Some}
use Rattle.mcy_base.specs.declared.span.Span.{Span}
use Rattle.vlog_syntax.specs.declared.feature.Feature.TheVariants.{Helper}
use Rattle.vlog_syntax.specs.declared.item.ProcessKind.TheVariants as k
use Rattle.vlog_syntax.specs.declared.module.Module.{Module}
use Rattle.vlog_syntax.specs.declared.stmt.Stmt.{Stmt}
use Rattle.netlist_core.specs.declared.raw.RawNetlist.{RawNetlist}
use Rattle.vlog_meaning.specs.declared.scope.Decl.TheVariants.{Signal}
use Rattle.vlog_meaning.specs.Scopes.{Names, names_of}
use Rattle.tb_machine.specs.Nodes.{Tree, IsCode, tree_of}
use Rattle.net_order.specs.Orders.{IsOnLoop, IsFirst}
use Rattle.tb_faults.specs.declared.error.BenchError.{BenchError}
use Rattle.tb_faults.specs.declared.error.BenchError.TheVariants as e
use Rattle.tb_items.specs.declared.generator.Generator.{Generator}
use Rattle.tb_items.specs.declared.generator.Inversion.{Inversion}
use Rattle.tb_items.specs.declared.generator.Inversion.TheVariants.{Bits, Truth}
use Rattle.tb_items.specs.declared.item.BenchItem.{BenchItem}
use Rattle.tb_items.specs.declared.item.BenchItem.TheVariants as b
use Rattle.tb_contents.specs.Nets.{nodes_of}
use Rattle.tb_nets.specs.Nets.{wiring, ReadsNode}
use Rattle.tb_wired.specs.Wired.{places_of}
use Rattle.tb_bench.specs.declared.parts.Clock.{Clock}
use Rattle.tb_bench.specs.declared.parts.Parts.{Parts}
use Rattle.tb_bench.specs.declared.parts.Waiting.{Waiting}
use Rattle.tb_bench.specs.Settings.{names, widths}
use Rattle.tb_bench.specs.Runnable.{FitsDesign}
use Rattle.tb_reading.specs.declared.bench.Made.{Made}
use Rattle.tb_reading.specs.declared.bench.Made.TheVariants as d
use Rattle.tb_reading.specs.declared.reading.Reading.{Reading}
use Rattle.tb_reading.specs.Processes.{Begun, begun, processes}
use Rattle.tb_reading.specs.Readings.{IsRead}
use Rattle.tb_reading.specs.Reasons.{IsReason}

-- The clock, by its first generator: where it is high, all its bits are 1, or its lowest where the generator inverts its truth.

abbrev pub high_bits : Inversion → (width : ℕ) → ℕ
high_bits Bits width = 2 ^ width - 1
high_bits Truth width = 1

abbrev pub first_generator : List BenchItem → Option Generator
first_generator [] = None
first_generator (b.Clocks at g ∷ more) = Some g
first_generator (item ∷ more) = first_generator more

abbrev pub IsClockOf : Names → Option Generator → Clock → Type 0
IsClockOf names None c = ⊥
IsClockOf names (Some g) c = (low : ℕ) × (is_signed : Bool) × (names g.clock.name ≡ Some (Signal c.high.width low is_signed c.signal)) × (c.high.bits ≡ high_bits g.inversion c.high.width)

-- the process as it stands in the source
abbrev pub begun_as : Tree → Waiting → Begun
begun_as tree p = begun p.event (tree p.body)

-- The bench has the names and the signals with their start values that were read, the processes in the order of the source, the clock,
-- the hidden signals at the ports of the design, and the nets.
pub record HasParts (r : Reading) (p : Parts) : Type 0 where
  pub scope : p.scope ≡ r.signals.scope
  pub widths_are : widths p ≡ r.signals.widths
  pub values : map (λ w. w.bits) p.starts ≡ r.signals.values
  pub trees : List Stmt
  pub code : IsCode p.code trees
  pub always : map (begun_as (tree_of trees)) p.always ≡ processes k.Always r.items.items
  pub initial : map (begun_as (tree_of trees)) p.initial ≡ processes k.Initial r.items.items
  pub clock : IsClockOf (names p) (first_generator r.items.items) p.clock
  pub inputs : p.inputs ≡ r.inputs.items
  pub outputs : p.outputs ≡ r.outputs.items
  pub nets : p.nets.nodes ≡ nodes_of r.items.items

-- the bench of a module, for the design of a netlist with this top
pub record IsBenchOf (m top : Module) (netlist : RawNetlist) (p : Parts) : Type 0 where
  pub reading : Reading
  pub read : IsRead m top netlist reading
  pub accepted : IsReason m reading None
  pub parts : HasParts reading p

-- The first net on a loop, where there is no other reason.
pub record IsLoop (m top : Module) (netlist : RawNetlist) (at : Span) : Type 0 where
  pub reading : Reading
  pub read : IsRead m top netlist reading
  pub accepted : IsReason m reading None
  pub node : ℕ
  pub first : IsFirst (IsOnLoop (ReadsNode (wiring (names_of reading.signals.scope) reading.inputs.items reading.outputs.items) (nodes_of reading.items.items))) node
  pub place : slice_get (places_of reading.items.items) node ≡ Some at

-- a reason with a place or a missing part, or a loop; want of memory has no reason
pub record IsRefused (m top : Module) (netlist : RawNetlist) (error : BenchError) : Type 0 where
  pub reading : Reading
  pub read : IsRead m top netlist reading
  pub reason : IsReason m reading (Some error)

abbrev pub IsOnALoop : Module → Module → RawNetlist → BenchError → Type 0
IsOnALoop m top netlist error = (at : Span) × (error ≡ e.Unsupported at Helper) × IsLoop m top netlist at

abbrev pub IsRefusal : Module → Module → RawNetlist → BenchError → Type 0
IsRefusal m top netlist e.Memory = Unit {0}
IsRefusal m top netlist error = IsRefused m top netlist error ⊎ IsOnALoop m top netlist error

-- For proofs alone.

-- what comes of a testbench
abbrev pub IsMade : Module → Module → RawNetlist → Made → Type 0
IsMade m top netlist (d.Bench p) = IsBenchOf m top netlist p × FitsDesign p netlist
IsMade m top netlist (d.Refused error) = IsRefusal m top netlist error
