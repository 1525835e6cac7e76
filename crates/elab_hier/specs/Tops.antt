-- A source as it is elaborated: the flattened design of its modules, the ports of the top, and the clock.
use Rattle.std.specs.Prelude.{◌≡◌, ◌↔◌, ℕ, Bool, false, IsTrue, List, Option, length, option_map, slice_get, slice_index_or}
use Rattle.std.specs.List.{Contains}
use Rattle.vlog_syntax.specs.declared.identifier.Identifier.{Identifier}
use Rattle.vlog_syntax.specs.declared.item.Direction.TheVariants.{Input}
use Rattle.vlog_syntax.specs.declared.module.Module.{Module}
use Rattle.flat_scopes.specs.Wires.{ports_of}
use Rattle.flat_items.specs.Flattened.{Flat}
use Rattle.flat_items.specs.Replacing.{FlattensTop}
use Rattle.flat_items.specs.Tops.{own_in}
use Rattle.flat_clocks.specs.Clocks.{Clocks, clocks_of}
use Rattle.elab_items.specs.Answers.{name_of}
use Rattle.elab_items.specs.Designs.{port_numbers}
use Rattle.elab_writers.specs.Numbers.{input_numbers, output_numbers}

-- What the modules are flattened to, the names in the head of the top, and for each signal by its number whether it is an input of
-- the top, the clock included.
pub record Source : Type 0 where
  pub flat : Flat
  pub ports : List Identifier
  pub flags : List Bool

-- so many flags, of which those at these numbers are set
pub record AreFlags (total : ℕ) (numbers : List ℕ) (flags : List Bool) : Type 0 where
  pub count : length flags ≡ total
  pub set : (k : ℕ) → IsTrue (slice_index_or flags k false) ↔ Contains numbers k

-- the inputs of the top, the clock included
abbrev pub all_inputs : Flat → (ports : List Identifier) → List ℕ
all_inputs flat ports = port_numbers Input flat.signals (own_in (slice_get flat.places 0)) ports

-- the source of the modules whose top has this name
pub record IsSource (modules : List Module) (top : List ℕ) (source : Source) : Type 0 where
  pub flattens : FlattensTop modules top source.flat
  pub ports : source.ports ≡ ports_of flattens.design.m.ports
  pub flags : AreFlags (length source.flat.signals) (all_inputs source.flat source.ports) source.flags

-- from where signals have their values, and the clock
abbrev pub clocks : Source → Clocks
clocks source = clocks_of source.flags source.flat

abbrev pub clock : Source → Option ℕ
clock source = (clocks source).clock

abbrev pub clock_name : Source → Option (List ℕ)
clock_name source = option_map (name_of source.flat.signals) (clock source)

-- the inputs but for the clock, and the outputs
abbrev pub inputs : Source → List ℕ
inputs source = input_numbers source.ports (clock source) source.flat

abbrev pub outputs : Source → List ℕ
outputs source = output_numbers source.ports source.flat
