-- Why modules are not elaborated. First there is no top; then the signals have too many bits; then the first item is refused that is,
-- for what stands first in it by place, or because with it the loops of all items take too many turns; and where all items are built,
-- their netlist is refused as a whole.
use Rattle.std.specs.Prelude.{◌≡◌, ℕ, ◌<◌, Bool, List, Option, None, Some}
use Rattle.mcy_base.specs.declared.kind.Kind.TheVariants.{LoopTurns, NetBits}
use Rattle.vlog_syntax.specs.declared.module.Module.{Module}
use Rattle.net_builder.specs.Building.{Building}
use Rattle.flat_scopes.specs.declared.signal.Signal.{Signal}
use Rattle.flat_instances.specs.declared.error.ItemError.{ItemError}
use Rattle.flat_instances.specs.declared.item.FlatItem.{FlatItem}
use Rattle.flat_items.specs.Flattened.{Flat, module_at}
use Rattle.flat_clocks.specs.Clocks.{clocks_of}
use Rattle.process_cells.specs.Starts.{StartsWith}
use Rattle.elab_items.specs.declared.answer.ElabError.{ElabError}
use Rattle.elab_items.specs.declared.answer.ElabError.TheVariants.{NoTop, Twice, TooMany, Loop, Memory}
use Rattle.elab_items.specs.declared.error.BuildError.{BuildError}
use Rattle.elab_items.specs.declared.error.BuildError.TheVariants as build
use Rattle.elab_items.specs.Answers.{item_answer, reason_answer}
use Rattle.elab_items.specs.Designs.{widths_of}
use Rattle.elab_items.specs.Full.{listed_before}
use Rattle.elab_items.specs.Signals.{bits_of, max_bits}
use Rattle.elab_items.specs.Starts.{start_values}
use Rattle.elab_items.specs.Timed.{BuildsAll, FailsSome}
use Rattle.elab_items.specs.Turns.{max_turns, turns_in, within}
use Rattle.elab_finish.specs.declared.error.DesignError.{DesignError}
use Rattle.elab_finish.specs.declared.error.DesignError.TheVariants as ending
use Rattle.elab_finish.specs.Refusals.{IsRefused}
use Rattle.elab_lefts.specs.Lefts.{design_lefts}
use Rattle.elab_writers.specs.Numbers.{declared_numbers}
use Rattle.elab_hier.specs.Tops.{Source, IsSource, clock_name, inputs, outputs}
use Rattle.elab_hier.specs.Accepted.{HasSignals, HasItems}

-- Nothing can be built of a design with too many bits: it is refused for the first item that is listed as refused before the signal
-- that passes the limit, or else for the limit.

abbrev pub full_as : Option ItemError → ElabError
full_as None = TooMany NetBits
full_as (Some error) = item_answer error

abbrev pub full_answer : Flat → ElabError
full_answer flat = full_as (listed_before (widths_of flat.signals) 0 flat.items)

-- why an item is not built
abbrev pub build_answer : List Signal → BuildError → ElabError
build_answer signals (build.Refused reason) = reason_answer signals reason
build_answer signals (build.TooMany kind) = TooMany kind
build_answer signals build.Memory = Memory

-- why what was built has no netlist
abbrev pub end_answer : DesignError → ElabError
end_answer (ending.Loop span) = Loop span
end_answer (ending.TooMany kind) = TooMany kind
end_answer (ending.Twice span) = Twice span
end_answer ending.Memory = Memory

-- the items before the one with which loops take too many turns, or all
abbrev pub counted : Flat → List FlatItem
counted flat = within flat.places max_turns flat.items

-- An item is not built, where those before it are: the first one that is refused, or for which there is no room.
pub record RefusesItem (flat : Flat) (flags : List Bool) (error : ElabError) : Type 0 where
  pub first : Building
  pub begins : HasSignals flat first
  pub reason : BuildError
  pub fails : FailsSome flags flat (clocks_of flags flat) (counted flat) first reason
  pub answers : error ≡ build_answer flat.signals reason

-- Loops take too many turns, and all items are built before the one with which they do.
pub record RefusesTurns (flat : Flat) (flags : List Bool) (error : ElabError) : Type 0 where
  pub many : max_turns < turns_in flat.places flat.items
  pub first : Building
  pub begins : HasSignals flat first
  pub last : Building
  pub builds : BuildsAll flags flat (clocks_of flags flat) (counted flat) first last
  pub answers : error ≡ TooMany LoopTurns

-- All items are built, in the builder with the start values of the source, and there is no netlist: nets loop, at the first left side that is on a loop; or there are too many bits; or
-- two registers have one name, at the second one's; or cells loop, at the least numbered one.
pub record RefusesEnd (source : Source) (top : List ℕ) (error : ElabError) : Type 0 where
  pub first : Building
  pub begins : HasSignals source.flat first
  pub starts : StartsWith first (start_values (widths_of source.flat.signals) source.flat.places source.flat.items)
  pub last : Building
  pub builds : HasItems source.flat source.flags first last
  pub reason : DesignError
  pub refused : IsRefused last top (clock_name source) (inputs source) (outputs source) (declared_numbers source.flat.items) (design_lefts source.flat) reason
  pub answers : error ≡ end_answer reason

-- Why a source has no netlist.
pub data RefusesSource (source : Source) (top : List ℕ) : ElabError → Type 0 where
  full : max_bits < bits_of source.flat.signals → RefusesSource source top (full_answer source.flat)
  item : (error : ElabError) → RefusesItem source.flat source.flags error → RefusesSource source top error
  turns : (error : ElabError) → RefusesTurns source.flat source.flags error → RefusesSource source top error
  end : (error : ElabError) → RefusesEnd source top error → RefusesSource source top error

-- Why the modules whose top has this name are not elaborated. Want of memory may be answered at any time.
pub data IsElabRefusal (modules : List Module) (top : List ℕ) : ElabError → Type 0 where
  no_top : module_at modules top ≡ None → IsElabRefusal modules top NoTop
  refused : (source : Source) (error : ElabError) → IsSource modules top source → RefusesSource source top error → IsElabRefusal modules top error
  short : IsElabRefusal modules top Memory
