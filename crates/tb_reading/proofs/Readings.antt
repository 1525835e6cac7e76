-- What is read of a module is one, but for how its names are kept.
use Rattle.tb_reading.proofs.Common.{◌≡◌, ℕ, ◌+◌, ◌++◌, length, Option, None, Some, refl, sym, ap, ◌∙◌, RawNetlist, Identifier, Module, Names, names_of, Opened, Design, clock_of, held_instance}
use Rattle.tb_reading.proofs.Common.{items_of, hidden_names, started, Reading, IsRead, input_numbers, instance_names, instance_values, instance_widths, output_numbers, signal_widths, zeros}
use Rattle.tb_reading.proofs.Designs.{AreSame, designs_once, held_instance_same, hidden_same, items_same, opened_once}

pub record ReadAlike (r s : Reading) : Type 0 where
  pub names : names_of r.signals.scope ≡ names_of s.signals.scope
  pub declared : r.declared.items ≡ s.declared.items
  pub widths : r.signals.widths ≡ s.signals.widths
  pub values : r.signals.values ≡ s.signals.values
  pub clock : r.clock ≡ s.clock
  pub items : r.items.items ≡ s.items.items
  pub inputs : r.inputs.items ≡ s.inputs.items
  pub outputs : r.outputs.items ≡ s.outputs.items

names_same : (d e : Design) → AreSame d e → (instance : Option Identifier) (netlist : RawNetlist) (names : Names) (n : ℕ) → instance_names d instance netlist names n ≡ instance_names e instance netlist names n
names_same d e same None netlist names n = refl
names_same d e same (Some i) netlist names n =
    ap (λ (x : Names). hidden_names d i.name x (n + length netlist.inputs) netlist.outputs) (hidden_same d e same i.name names n netlist.inputs)
    ∙ hidden_same d e same i.name (hidden_names e i.name names n netlist.inputs) (n + length netlist.inputs) netlist.outputs

pub read_once : (m top : Module) (netlist : RawNetlist) (r s : Reading) → IsRead m top netlist r → IsRead m top netlist s → ReadAlike r s
read_once m top netlist r s h k =
    let d : Design = h.design in
    let e : Design = k.design in
    let same : AreSame d e = designs_once top netlist d e h.is_design k.is_design in
    let opened : h.opened ≡ k.opened = opened_once m h.opened k.opened h.is_opened k.is_opened in
    let instance : held_instance d h.opened.steps ≡ held_instance e k.opened.steps = ap (λ (o : Opened). held_instance d o.steps) opened ∙ held_instance_same d e same k.opened.steps in
    let names : names_of r.signals.scope ≡ names_of s.signals.scope =
    h.names ∙ (λ i. instance_names d (instance i) netlist (opened i).names (length (opened i).signals))
    ∙ names_same d e same (held_instance e k.opened.steps) netlist k.opened.names (length k.opened.signals) ∙ sym k.names in
    let widths : r.signals.widths ≡ s.signals.widths = h.widths ∙ (λ i. signal_widths (opened i).signals ++ instance_widths (instance i) netlist) ∙ sym k.widths in
    let clock : r.clock ≡ s.clock = h.clock ∙ (λ i. clock_of (names i) (opened i).steps) ∙ sym k.clock in
    let items : r.items.items ≡ s.items.items =
    h.items ∙ (λ i. items_of (names i) d (clock i) (opened i).steps)
    ∙ items_same (names_of s.signals.scope) d e same s.clock k.opened.steps ∙ sym k.items in
    record {
      names = names;
      declared = h.declared ∙ ap (λ (o : Opened). o.signals) opened ∙ sym k.declared;
      widths = widths;
      values = h.values ∙ (λ i. started (names i) (widths i) (zeros (opened i).signals ++ instance_values (instance i) netlist) (items i)) ∙ sym k.values;
      clock = clock;
      items = items;
      inputs = h.inputs ∙ (λ i. input_numbers (instance i) netlist (length (opened i).signals)) ∙ sym k.inputs;
      outputs = h.outputs ∙ (λ i. output_numbers (instance i) netlist (length (opened i).signals)) ∙ sym k.outputs;
    }
