-- What modules are elaborated to: the netlist of their source, in three equations.
--
-- The first says which cells, wires and registers it has, in which order and at which places: they are what the items lay, one after
-- the other (`lay_item` of `elab_items`), in the builder that has the signals in the order of their numbers and their start values,
-- and what was laid is ended (`IsEnding`): cells stay in their order, and registers stand in the order in which their signals are
-- declared. The second says which design the source means (`IsDesign`), and the third that the netlist has just its runs.
--
-- What is refused in a source is no part of it: `Accepted` says that nothing is in one that has a netlist.
use Rattle.std.specs.Prelude.{ℕ, List}
use Rattle.netlist_core.specs.declared.raw.RawNetlist.{RawNetlist}
use Rattle.vlog_syntax.specs.declared.module.Module.{Module}
use Rattle.net_builder.specs.Building.{Building, empty}
use Rattle.flat_runs.specs.Designs.{Design}
use Rattle.flat_runs.specs.Laws.{SameRuns}
use Rattle.process_cells.specs.Starts.{SameButStarts, StartsWith}
use Rattle.elab_items.specs.Designs.{IsDesign}
use Rattle.elab_items.specs.Laid.{lay_items}
use Rattle.elab_items.specs.Signals.{declared}
use Rattle.elab_finish.specs.Endings.{IsEnding}
use Rattle.elab_writers.specs.Numbers.{declared_numbers}
use Rattle.elab_hier.specs.Tops.{Source, IsSource, clock, clock_name, inputs, outputs}

-- what all items lay in a builder, one after the other
abbrev pub laid : Source → Building → Building
laid source first = lay_items source.flat.places source.flat.items first

-- what was built is ended as this netlist
abbrev pub Ends : Source → (top : List ℕ) → Building → RawNetlist → Type 0
Ends source top last netlist = IsEnding last top (clock_name source) (inputs source) (outputs source) (declared_numbers source.flat.items) netlist

-- The netlist of a source.
pub record HasNetlist (source : Source) (top : List ℕ) (netlist : RawNetlist) : Type 0 where
  -- cells, names, numbers, places and registers
  pub first : Building
  pub begins : SameButStarts (declared source.flat.signals empty) first
  pub ends : Ends source top (laid source first) netlist
  -- runs
  pub design : Design
  pub is_design : IsDesign source.ports (clock source) source.flat design
  pub starts : StartsWith first design.start
  pub runs : SameRuns design netlist

-- the netlist of the modules whose top has this name
pub record Elaborates (modules : List Module) (top : List ℕ) (netlist : RawNetlist) : Type 0 where
  pub source : Source
  pub is_source : IsSource modules top source
  pub has_netlist : HasNetlist source top netlist
