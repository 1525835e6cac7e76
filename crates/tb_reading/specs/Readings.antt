-- What is read of the module of a testbench, before it is judged: its items, by names with those of the hidden signals at the ports of
-- the instance of the design, and the signals that all names stand for.
use Rattle.std.specs.Prelude.{◌≡◌, ℕ, ◌+◌, List, [], ◌++◌, map, length, Option, None, Some, length}
use Rattle.vlog_syntax.specs.declared.identifier.Identifier.{Identifier}
use Rattle.vlog_syntax.specs.declared.module.Module.{Module}
use Rattle.netlist_core.specs.declared.raw.RawNetlist.{RawNetlist}
use Rattle.vlog_meaning.specs.Scopes.{Names, names_of}
use Rattle.flat_scopes.specs.declared.signal.Signal.{Signal}
use Rattle.flat_scopes.specs.Openings.{Opened}
use Rattle.tb_items.specs.declared.design.Design.{Design}
use Rattle.tb_items.specs.Items.{clock_of, held_instance, items_of}
use Rattle.tb_signals.specs.Opened.{IsOpened}
use Rattle.tb_contents.specs.Designs.{IsDesign}
use Rattle.tb_contents.specs.Hidden.{hidden_names, numbers_from, port_widths}
use Rattle.tb_contents.specs.Starts.{started}
use Rattle.tb_reading.specs.declared.reading.Reading.{Reading}

-- The hidden signals: those of inputs, from this number on, and then those of outputs.

abbrev pub instance_names : Design → Option Identifier → RawNetlist → Names → ℕ → Names
instance_names d None netlist names n = names
instance_names d (Some i) netlist names n = hidden_names d i.name (hidden_names d i.name names n netlist.inputs) (n + length netlist.inputs) netlist.outputs

abbrev pub input_numbers : Option Identifier → RawNetlist → ℕ → List ℕ
input_numbers None netlist n = []
input_numbers (Some i) netlist n = numbers_from n netlist.inputs

abbrev pub output_numbers : Option Identifier → RawNetlist → ℕ → List ℕ
output_numbers None netlist n = []
output_numbers (Some i) netlist n = numbers_from (n + length netlist.inputs) netlist.outputs

abbrev pub instance_widths : Option Identifier → RawNetlist → List ℕ
instance_widths None netlist = []
instance_widths (Some i) netlist = port_widths netlist.inputs ++ port_widths netlist.outputs

-- a value of 0 for each
abbrev pub zeros : {A : Type 0} → List A → List ℕ
zeros xs = map (λ x. 0) xs

abbrev pub instance_values : Option Identifier → RawNetlist → List ℕ
instance_values None netlist = []
instance_values (Some i) netlist = zeros netlist.inputs ++ zeros netlist.outputs

abbrev pub signal_widths : List Signal → List ℕ
signal_widths = map (λ s. s.bits.width)

pub record IsRead (m top : Module) (netlist : RawNetlist) (r : Reading) : Type 0 where
  -- the module, opened by itself, and the design
  pub opened : Opened
  pub is_opened : IsOpened m opened
  pub design : Design
  pub is_design : IsDesign top netlist design
  pub declared : r.declared.items ≡ opened.signals
  -- hidden signals
  pub names : names_of r.signals.scope ≡ instance_names design (held_instance design opened.steps) netlist opened.names (length opened.signals)
  pub inputs : r.inputs.items ≡ input_numbers (held_instance design opened.steps) netlist (length opened.signals)
  pub outputs : r.outputs.items ≡ output_numbers (held_instance design opened.steps) netlist (length opened.signals)
  pub widths : r.signals.widths ≡ signal_widths opened.signals ++ instance_widths (held_instance design opened.steps) netlist
  -- its clock and its items, and the values with which signals start
  pub clock : r.clock ≡ clock_of (names_of r.signals.scope) opened.steps
  pub items : r.items.items ≡ items_of (names_of r.signals.scope) design r.clock opened.steps
  pub values : r.signals.values ≡ started (names_of r.signals.scope) r.signals.widths (zeros opened.signals ++ instance_values (held_instance design opened.steps) netlist) r.items.items
