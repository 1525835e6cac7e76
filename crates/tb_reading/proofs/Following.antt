-- What was read, step by step.
use Rattle.tb_reading.proofs.Common.{◌≡◌, ℕ, List, ◌++◌, length, Option, sym, ap, ◌∙◌, length-map, Identifier, Module, RawNetlist, Names, names_of, Opened, Design, clock_of, held_instance, items_of}
use Rattle.tb_reading.proofs.Common.{IsOpened, Table, IsDesign, started, Reading, instance_names, input_numbers, output_numbers, instance_widths, instance_values, signal_widths, zeros, IsRead}

-- the table of the module's signals, then with hidden ones, then with start values
pub record Steps (netlist : RawNetlist) (o : Opened) (d : Design) (instance : Option Identifier) (fresh hidden : Table) (r : Reading) : Type 0 where
  pub declared : r.declared.items ≡ o.signals
  pub held : instance ≡ held_instance d o.steps
  pub fresh_names : names_of fresh.scope ≡ o.names
  pub fresh_widths : fresh.widths ≡ signal_widths o.signals
  pub fresh_values : fresh.values ≡ zeros o.signals
  pub names : names_of hidden.scope ≡ instance_names d instance netlist (names_of fresh.scope) (length fresh.widths)
  pub inputs : r.inputs.items ≡ input_numbers instance netlist (length fresh.widths)
  pub outputs : r.outputs.items ≡ output_numbers instance netlist (length fresh.widths)
  pub widths : hidden.widths ≡ fresh.widths ++ instance_widths instance netlist
  pub values : hidden.values ≡ fresh.values ++ instance_values instance netlist
  pub scope : r.signals.scope ≡ hidden.scope
  pub same_widths : r.signals.widths ≡ hidden.widths
  pub started_with : r.signals.values ≡ started (names_of hidden.scope) hidden.widths hidden.values r.items.items
  pub clock : r.clock ≡ clock_of (names_of hidden.scope) o.steps
  pub items : r.items.items ≡ items_of (names_of hidden.scope) d r.clock o.steps

pub is_read : (m top : Module) (netlist : RawNetlist) (o : Opened) (d : Design) (instance : Option Identifier) (fresh hidden : Table) (r : Reading) → IsOpened m o → IsDesign top netlist d → Steps netlist o d instance fresh hidden r → IsRead m top netlist r
is_read m top netlist o d instance fresh hidden r opened design h =
    let long : length fresh.widths ≡ length o.signals = ap (length {A = ℕ}) h.fresh_widths ∙ length-map o.signals (λ s. s.bits.width) in
    let i = held_instance d o.steps in
    let named : names_of r.signals.scope ≡ names_of hidden.scope = ap names_of h.scope in
    record {
      opened = o;
      is_opened = opened;
      design = d;
      is_design = design;
      declared = h.declared;
      names = named ∙ h.names ∙ ap (λ (x : Option Identifier). instance_names d x netlist (names_of fresh.scope) (length fresh.widths)) h.held ∙ ap (λ (x : Names). instance_names d i netlist x (length fresh.widths)) h.fresh_names ∙ ap (λ (x : ℕ). instance_names d i netlist o.names x) long;
      inputs = h.inputs ∙ ap (λ (x : Option Identifier). input_numbers x netlist (length fresh.widths)) h.held ∙ ap (λ (x : ℕ). input_numbers i netlist x) long;
      outputs = h.outputs ∙ ap (λ (x : Option Identifier). output_numbers x netlist (length fresh.widths)) h.held ∙ ap (λ (x : ℕ). output_numbers i netlist x) long;
      widths = h.same_widths ∙ h.widths ∙ ap (λ (xs : List ℕ). xs ++ instance_widths instance netlist) h.fresh_widths ∙ ap (λ (x : Option Identifier). signal_widths o.signals ++ instance_widths x netlist) h.held;
      clock = h.clock ∙ ap (λ (x : Names). clock_of x o.steps) (sym named);
      items = h.items ∙ ap (λ (x : Names). items_of x d r.clock o.steps) (sym named);
      values = h.started_with ∙ ap (λ (x : Names). started x hidden.widths hidden.values r.items.items) (sym named) ∙ ap (λ (xs : List ℕ). started (names_of r.signals.scope) xs hidden.values r.items.items) (sym h.same_widths) ∙ ap (λ (xs : List ℕ). started (names_of r.signals.scope) r.signals.widths xs r.items.items) (h.values ∙ ap (λ (xs : List ℕ). xs ++ instance_values instance netlist) h.fresh_values ∙ ap (λ (x : Option Identifier). zeros o.signals ++ instance_values x netlist) h.held);
    }
