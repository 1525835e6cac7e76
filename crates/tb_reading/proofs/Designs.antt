-- What a design gives to a testbench is the same, whichever opening of its top it holds.
use Rattle.tb_reading.proofs.Common.{◌≡◌, ℕ, ◌+◌, Bool, not, ◌||◌, List, [], ◌∷◌, ◌++◌, length, Option, None, Some, refl, sym, ap, ◌∙◌, if◌then◌else◌, Port, RawNetlist, Identifier, Module, Names}
use Rattle.tb_reading.proofs.Common.{with_name, Placing, Step, Opened, unopened, opened_of, Design, has_values, held, held_instance, helper, is_strange, items_of, or_later, step_instance, step_items}
use Rattle.tb_reading.proofs.Common.{IsOpened, hidden_decl, IsDesign, hidden_names}
use Rattle.std.specs.List.{flat_map}
use Rattle.std.specs.Str.{bytes_eq}
use Rattle.vlog_syntax.specs.declared.item.ParameterValues.{ParameterValues}
use Rattle.flat_scopes.specs.declared.opening.Step.TheVariants as s
use Rattle.flat_scopes.specs.declared.wire.Wire.{Wire}
use Rattle.flat_scopes.specs.declared.wire.Wire.TheVariants.{To, Mismatch}
use Rattle.flat_instances.specs.Instances.{no_names}
use Rattle.flat_scopes.specs.Wires.{wires_of}
use Rattle.flat_items.specs.Replacing.{top_head}
use Rattle.flat_once.proofs.Scopes.{module_once}
use Rattle.tb_items.specs.declared.design.Role.TheVariants.{Clock}
use Rattle.tb_items.specs.declared.item.BenchItem.TheVariants as b
use Rattle.tb_items.specs.Connections.{clock_missing, connections, taken, hidden, role_items, wire_items}
use Rattle.tb_items.specs.Designs.{hidden_name, is_clock, named_port, port_role, port_sign, role_of, sign_at}

pub record AreSame (d e : Design) : Type 0 where
  pub name : d.name ≡ e.name
  pub ports : d.ports ≡ e.ports
  pub clock : d.clock ≡ e.clock
  pub opened : opened_of d.top ≡ opened_of e.top

pub opened_once : (m : Module) (o q : Opened) → IsOpened m o → IsOpened m q → o ≡ q
opened_once m o q h k = module_once (top_head m) no_names m (unopened no_names []) o q h k

pub designs_once : (top : Module) (netlist : RawNetlist) (d e : Design) → IsDesign top netlist d → IsDesign top netlist e → AreSame d e
designs_once top netlist d e h k = record {
  name = h.name ∙ sym k.name;
  ports = h.ports ∙ sym k.ports;
  clock = h.clock ∙ sym k.clock;
  opened = opened_once top (opened_of d.top) (opened_of e.top) h.opened k.opened;
}

role_same : (d e : Design) → AreSame d e → (name : List ℕ) → role_of d name ≡ role_of e name
role_same d e same name = λ i. if is_clock (same.clock i) name then Clock else port_role (named_port (same.opened i) name)

sign_same : (d e : Design) → AreSame d e → (name : List ℕ) → port_sign d name ≡ port_sign e name
sign_same d e same name = λ i. sign_at (same.opened i).signals (named_port (same.opened i) name)

wire_same : (d e : Design) → AreSame d e → (clock : Option (List ℕ)) (instance : Identifier) (w : Wire) → wire_items d clock instance w ≡ wire_items e clock instance w
wire_same d e same clock instance (Mismatch at) = refl
wire_same d e same clock instance (To port value) = λ i. role_items clock (role_same d e same port.name i) (hidden instance port) value

connections_same : (d e : Design) → AreSame d e → (clock : Option (List ℕ)) (x : Placing) → connections d clock x ≡ connections e clock x
connections_same d e same clock x = λ i. clock_missing (same.clock i) x.module_name.span (wires_of (same.ports i) x.instance) ++ (taken x ++ flat_map (λ w. wire_same d e same clock x.instance.name w i) (wires_of (same.ports i) x.instance))

held_same : (d e : Design) → AreSame d e → (clock : Option (List ℕ)) (x : Placing) → held d clock x ≡ held e clock x
held_same d e same clock x = λ i. if x.is_first then b.Holds x.module_name.span ∷ connections_same d e same clock x i else taken x ++ b.Holds x.instance.name.span ∷ []

strange_same : (d e : Design) → AreSame d e → (name : Identifier) (values : ParameterValues) → is_strange d name values ≡ is_strange e name values
strange_same d e same name values = λ i. not (bytes_eq (same.name i) name.name) || has_values values

step_same : (names : Names) (d e : Design) → AreSame d e → (clock : Option (List ℕ)) (x : Step) → step_items names d clock x ≡ step_items names e clock x
step_same names d e same clock (s.Places x) = λ i. if strange_same d e same x.module_name x.values i then helper x.module_name.span ∷ [] else held_same d e same clock x i
step_same names d e same clock other = refl

pub items_same : (names : Names) (d e : Design) → AreSame d e → (clock : Option (List ℕ)) (steps : List Step) → items_of names d clock steps ≡ items_of names e clock steps
items_same names d e same clock steps = λ i. flat_map (λ x. step_same names d e same clock x i) steps

step_instance_same : (d e : Design) → AreSame d e → (x : Step) → step_instance d x ≡ step_instance e x
step_instance_same d e same (s.Places x) = λ i. if strange_same d e same x.module_name x.values i then None else Some x.instance.name
step_instance_same d e same other = refl

pub held_instance_same : (d e : Design) → AreSame d e → (steps : List Step) → held_instance d steps ≡ held_instance e steps
held_instance_same d e same [] = refl
held_instance_same d e same (x ∷ more) = λ i. or_later (step_instance_same d e same x i) (held_instance_same d e same more i)

pub hidden_same : (d e : Design) → AreSame d e → (instance : List ℕ) (names : Names) (n : ℕ) (ports : List Port) → hidden_names d instance names n ports ≡ hidden_names e instance names n ports
hidden_same d e same instance names n [] = refl
hidden_same d e same instance names n (x ∷ more) =
    let first = λ (sign : Bool). hidden_names d instance (with_name names (hidden_name instance x.name) (hidden_decl (length x.bits) sign n)) (n + 1) more in
    ap first (sign_same d e same x.name) ∙ hidden_same d e same instance (with_name names (hidden_name instance x.name) (hidden_decl (length x.bits) (port_sign e x.name) n)) (n + 1) more
