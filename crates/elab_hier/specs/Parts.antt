-- The code's parts: the ports of a top as they are kept, and what is built up to the end.
use Rattle.std.specs.Prelude.{◌≡◌, ◌⊎◌, ℕ, ◌<◌, Bool, List, Option, length, option_map}
use Rattle.netlist_core.specs.declared.raw.RawNetlist.{RawNetlist}
use Rattle.vlog_syntax.specs.declared.identifier.Identifier.{Identifier}
use Rattle.net_builder.specs.Building.{Building}
use Rattle.flat_runs.specs.Meanings.{NoneTwice}
use Rattle.flat_items.specs.Flattened.{Flat}
use Rattle.process_cells.specs.Starts.{StartsWith}
use Rattle.elab_items.specs.declared.answer.ElabError.{ElabError}
use Rattle.elab_items.specs.declared.answer.ElabError.TheVariants.{Memory}
use Rattle.elab_items.specs.Answers.{name_of}
use Rattle.elab_items.specs.Designs.{widths_of, without}
use Rattle.elab_items.specs.Signals.{bits_of, max_bits}
use Rattle.elab_items.specs.Starting.{AllStart}
use Rattle.elab_items.specs.Starts.{start_values}
use Rattle.elab_finish.specs.declared.error.DesignError.{DesignError}
use Rattle.elab_finish.specs.declared.left.Left.{Left}
use Rattle.elab_finish.specs.Refusals.{IsRefused}
use Rattle.elab_lefts.specs.Lefts.{design_lefts}
use Rattle.elab_writers.specs.Numbers.{declared_numbers, output_numbers}
use Rattle.elab_hier.specs.declared.numbers.Lists.{Lists}
use Rattle.elab_hier.specs.declared.ports.Top.{Top}
use Rattle.elab_hier.specs.Tops.{AreFlags, Source, all_inputs}
use Rattle.elab_hier.specs.Accepted.{HasItems, HasSignals, IsAccepted}
use Rattle.elab_hier.specs.Refusals.{RefusesItem, RefusesSource, RefusesTurns, end_answer, full_answer}

-- For proofs alone.

-- the ports of a top whose head has these names
pub record IsTop (flat : Flat) (ports : List Identifier) (top : Top) : Type 0 where
  pub inputs : top.inputs.items ≡ all_inputs flat ports
  pub outputs : top.outputs.items ≡ output_numbers ports flat
  pub flags : AreFlags (length flat.signals) (all_inputs flat ports) top.flags.items

-- The builder has the signals of a design, with its start values where none is refused.
pub record IsBegun (flat : Flat) (first : Building) : Type 0 where
  pub begins : HasSignals flat first
  pub starts : AllStart (widths_of flat.signals) flat.places flat.items → StartsWith first (start_values (widths_of flat.signals) flat.places flat.items)

abbrev pub IsFullAs : Flat → ElabError → Type 0
IsFullAs flat error = ((max_bits < bits_of flat.signals) × (error ≡ full_answer flat)) ⊎ (error ≡ Memory)

-- All items are built in such a builder, by these flags of the inputs.
pub record IsBuilt (flat : Flat) (flags : List Bool) (last : Building) : Type 0 where
  pub first : Building
  pub begun : IsBegun flat first
  pub builds : HasItems flat flags first last

abbrev pub IsNotBuilt : Flat → List Bool → ElabError → Type 0
IsNotBuilt flat flags error = IsFullAs flat error ⊎ (RefusesItem flat flags error ⊎ RefusesTurns flat flags error)

-- what the end takes besides, where the top has these inputs and the design this clock
pub record AreLists (flat : Flat) (numbers : List ℕ) (timed : Option ℕ) (lists : Lists) : Type 0 where
  pub inputs : lists.inputs.items ≡ without timed numbers
  pub once : NoneTwice lists.inputs.items
  pub declared : lists.declared.items ≡ declared_numbers flat.items
  pub clock : lists.clock ≡ option_map (name_of flat.signals) timed
  pub lefts : lists.lefts.items ≡ design_lefts flat

-- what was built is refused at the end, as it is answered
abbrev pub IsRefusedAs : Building → (top : List ℕ) → (clock : Option (List ℕ)) → (ins outs ks : List ℕ) → List Left → ElabError → Type 0
IsRefusedAs last top clock ins outs ks lefts error = (reason : DesignError) × IsRefused last top clock ins outs ks lefts reason × (error ≡ end_answer reason)

-- A design has a netlist, by flags that are those of its inputs, or is refused.

abbrev pub source_of : Flat → List Identifier → List Bool → Source
source_of flat ports flags = record { flat = flat; ports = ports; flags = flags }

pub record IsNetlistOf (flat : Flat) (ports : List Identifier) (top : List ℕ) (netlist : RawNetlist) : Type 0 where
  pub flags : List Bool
  pub are_flags : AreFlags (length flat.signals) (all_inputs flat ports) flags
  pub has_netlist : IsAccepted (source_of flat ports flags) top netlist

pub record RefusesFlat (flat : Flat) (ports : List Identifier) (top : List ℕ) (error : ElabError) : Type 0 where
  pub flags : List Bool
  pub are_flags : AreFlags (length flat.signals) (all_inputs flat ports) flags
  pub refuses : RefusesSource (source_of flat ports flags) top error

abbrev pub IsRefusalOf : Flat → List Identifier → (top : List ℕ) → ElabError → Type 0
IsRefusalOf flat ports top error = RefusesFlat flat ports top error ⊎ (error ≡ Memory)
