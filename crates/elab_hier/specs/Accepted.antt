-- What holds besides of a source that has a netlist: nothing in it is refused. Its items are built one after the other, each as it is
-- laid, no limit is passed, and its netlist can be run.
use Rattle.std.specs.Prelude.{ℕ, ◌≤◌, Bool, List}
use Rattle.netlist_core.specs.declared.raw.RawNetlist.{RawNetlist}
use Rattle.netlist_core.specs.Checked.{IsSound}
use Rattle.vlog_syntax.specs.declared.module.Module.{Module}
use Rattle.net_builder.specs.Building.{Building, empty}
use Rattle.flat_items.specs.Flattened.{Flat}
use Rattle.flat_clocks.specs.Clocks.{clocks_of}
use Rattle.process_cells.specs.Starts.{SameButStarts}
use Rattle.elab_items.specs.Signals.{bits_of, declared, max_bits}
use Rattle.elab_items.specs.Timed.{BuildsAll}
use Rattle.elab_items.specs.Turns.{max_turns, turns_in}
use Rattle.elab_finish.specs.Names.{AreNamedApart}
use Rattle.elab_finish.specs.Refusals.{IsWithin}
use Rattle.elab_hier.specs.Tops.{Source, IsSource}
use Rattle.elab_hier.specs.Elaborations.{HasNetlist, laid}

-- The builder has the signals of a design, with any start values.
pub record HasSignals (flat : Flat) (first : Building) : Type 0 where
  pub fits : bits_of flat.signals ≤ max_bits
  pub declared : SameButStarts (declared flat.signals empty) first

-- All items are built in it, one after the other, and none is refused; and their loops do not take too many turns.
pub record HasItems (flat : Flat) (flags : List Bool) (first last : Building) : Type 0 where
  pub few : turns_in flat.places flat.items ≤ max_turns
  pub all : BuildsAll flags flat (clocks_of flags flat) flat.items first last

-- The netlist can be run: there is an order of its cells.
abbrev pub CanRun : RawNetlist → Type 0
CanRun netlist = (order : List ℕ) × (nets : ℕ) × IsSound (record { raw = netlist; order = order; nets = nets })

-- The source has this netlist, and nothing in it is refused.
pub record IsAccepted (source : Source) (top : List ℕ) (netlist : RawNetlist) : Type 0 where
  pub is : HasNetlist source top netlist
  pub fits : bits_of source.flat.signals ≤ max_bits
  pub builds : HasItems source.flat source.flags is.first (laid source is.first)
  pub within : IsWithin netlist
  pub apart : AreNamedApart netlist.registers
  pub runnable : CanRun netlist

-- the same of the modules whose top has this name
pub record IsElaborated (modules : List Module) (top : List ℕ) (netlist : RawNetlist) : Type 0 where
  pub source : Source
  pub is_source : IsSource modules top source
  pub has_netlist : IsAccepted source top netlist
