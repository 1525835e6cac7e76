-- What a reading of a testbench holds where it is not refused: items without a fault, the design and a generator among them, and
-- hidden signals as wide as the ports of the design.
use Rattle.tb_reading.proofs.Common.{◌≡◌, suc, ℕ, ◌+◌, Bool, true, false, ◌||◌, List, [], ◌∷◌, ◌++◌, map, length, refl, sym, ap, ◌∙◌, subst, if◌then◌else◌, arith, append_assoc, append-nil, Identifier}
use Rattle.tb_reading.proofs.Common.{Process, Module, Assignment, Port, RawNetlist, bits_at, Names, names_of, Placing, Step, Signal, BenchFault, Design, Generator, BenchItem, helper, generates}
use Rattle.tb_reading.proofs.Common.{delay_items, process_item, held, is_strange, listed, step_items, items_of, step_instance, or_later, held_instance, first_region, numbers_from, port_widths}
use Rattle.tb_reading.proofs.Common.{is_design, is_generator, some_item, AreFaultless, IsFirstIn, Reading, signal_widths, input_numbers, output_numbers, instance_widths, IsRead, context_in}
use Rattle.tb_reading.proofs.Common.{region_fault, answer, IsReason}
use Rattle.std.specs.Prelude.{Option, None, Some}
use Rattle.vlog_syntax.specs.declared.item.Delay.{Delay}
use Rattle.vlog_syntax.specs.declared.item.Item.{Item, out-Item}
use Rattle.vlog_syntax.specs.declared.item.Item.TheOpen as t
use Rattle.vlog_syntax.specs.declared.item.Item.TheOpen.{Item-F}
use Rattle.vlog_syntax.specs.declared.item.PlainItem.{PlainItem}
use Rattle.vlog_syntax.specs.declared.item.PlainItem.TheVariants as p
use Rattle.flat_scopes.specs.declared.opening.Step.TheVariants as s
use Rattle.tb_faults.proofs.Firsts.{none_earlier}
use Rattle.tb_items.specs.declared.item.BenchItem.TheVariants as b
use Rattle.tb_items.specs.Generators.{generator_of}
use Rattle.tb_settling.specs.Nodes.{PortsFit}
use Rattle.tb_reading.proofs.Fitting.{Fit, ports_fit}

-- The design among items.

some_both : (xs ys : List BenchItem) → some_item is_design (xs ++ ys) ≡ some_item is_design xs || some_item is_design ys
some_both [] ys = refl
some_both (x ∷ xs) ys = go (is_design x) (some_both xs ys)
  where
    go : (a : Bool) → some_item is_design (xs ++ ys) ≡ some_item is_design xs || some_item is_design ys → a || some_item is_design (xs ++ ys) ≡ (a || some_item is_design xs) || some_item is_design ys
    go true h = refl
    go false h = h

no_assign : (xs : List Assignment) → some_item is_design (map b.Assigns xs) ≡ false
no_assign [] = refl
no_assign (x ∷ xs) = no_assign xs

no_delay : (d : Option Delay) → some_item is_design (delay_items d) ≡ false
no_delay None = refl
no_delay (Some d) = refl

no_process : (x : Process) (o : Option Generator) → some_item is_design (process_item x o ∷ []) ≡ false
no_process x None = refl
no_process x (Some g) = refl

no_instance : (d : Design) (clock : Option (List ℕ)) (x : Placing) (strange : Bool) → (if strange then None else Some x.instance.name) ≡ None → some_item is_design (if strange then helper x.module_name.span ∷ [] else held d clock x) ≡ false
no_instance d clock x true e = refl
no_instance d clock x false e = absurd cc

no_generates : (x : Item-F Item) → some_item is_design (generates x) ≡ false
no_generates (t.Plain i) = refl
no_generates (t.GenerateRegion at items) = refl
no_generates (t.LoopGenerate loop body) = refl
no_generates (t.IfGenerate at condition first second) = refl
no_generates (t.GenerateBlock at name items) = refl
no_generates (t.NullGenerate at) = refl

none_or : (xs ys : List BenchItem) → some_item is_design xs ≡ false → some_item is_design ys ≡ false → some_item is_design (xs ++ ys) ≡ false
none_or xs ys e f = some_both xs ys ∙ ap (λ (c : Bool). c || some_item is_design ys) e ∙ f

no_listed : (names : Names) (x : PlainItem) → some_item is_design (listed names x) ≡ false
no_listed names (p.PortDeclaration x) = refl
no_listed names (p.DataDeclaration x) = refl
no_listed names (p.GenvarDeclaration at xs) = refl
no_listed names (p.ParameterDeclaration x) = refl
no_listed names (p.ContinuousAssign at delay xs) = none_or (delay_items delay) (map b.Assigns xs) (no_delay delay) (no_assign xs)
no_listed names (p.Process x) = no_process x (generator_of names x)
no_listed names (p.ModuleInstantiation name values list) = refl

no_step : (names : Names) (d : Design) (clock : Option (List ℕ)) (x : Step) → step_instance d x ≡ None → some_item is_design (step_items names d clock x) ≡ false
no_step names d clock (s.Declares k) e = refl
no_step names d clock (s.Refuses refusal) e = refl
no_step names d clock (s.RefusesGiven error) e = refl
no_step names d clock (s.Starts k x) e = refl
no_step names d clock (s.Drives name x) e = refl
no_step names d clock (s.Lists item) e = no_listed names item
no_step names d clock (s.Places x) e = no_instance d clock x (is_strange d x.module_name x.values) e
no_step names d clock (s.Generates k item taken) e = no_generates (out-Item item)

-- where the design is among the items, its instance is found
pub held_there : (names : Names) (d : Design) (clock : Option (List ℕ)) (steps : List Step) → some_item is_design (items_of names d clock steps) ≡ true → (i : Identifier) × (held_instance d steps ≡ Some i)
held_there names d clock [] e = absurd cc
held_there names d clock (x ∷ more) e = go (step_instance d x) refl (held_there names d clock more)
  where
    later : some_item is_design (step_items names d clock x) ≡ false → some_item is_design (items_of names d clock more) ≡ true
    later none = sym (some_both (step_items names d clock x) (items_of names d clock more) ∙ ap (λ (c : Bool). c || some_item is_design (items_of names d clock more)) none) ∙ e

    go : (o : Option Identifier) → step_instance d x ≡ o → (some_item is_design (items_of names d clock more) ≡ true → (i : Identifier) × (held_instance d more ≡ Some i)) → (i : Identifier) × (held_instance d (x ∷ more) ≡ Some i)
    go (Some i) is rest = (i, ap (λ (o : Option Identifier). or_later o (held_instance d more)) is)
    go None is rest = let found = rest (later (no_step names d clock x is)) in (found.0, ap (λ (o : Option Identifier). or_later o (held_instance d more)) is ∙ found.1)

-- No reason against a reading.

answered : (f : Option BenchFault) (design clock : Bool) → None ≡ answer f design clock → (f ≡ None) × (design ≡ true) × (clock ≡ true)
answered (Some f) design clock e = absurd cc
answered None false clock e = absurd cc
answered None true false e = absurd cc
answered None true true e = (refl, refl, refl)

pub accepted : (m : Module) (r : Reading) → IsReason m r None → AreFaultless (context_in r) r.items.items (length r.items.items) × (some_item is_design r.items.items ≡ true) × (some_item is_generator r.items.items ≡ true)
accepted m r reason =
    let three = answered reason.fault (some_item is_design r.items.items) (some_item is_generator r.items.items) reason.told in
    let none : reason.is_fault.found ≡ None = none_earlier reason.is_fault.found (region_fault (first_region m.items)) (sym three.0 ∙ reason.is_fault.told) in
    (subst (IsFirstIn (context_in r) r.items.items) none reason.is_fault.first, three.1, three.2)

-- Hidden signals.

widths_many : (xs : List Signal) → length (signal_widths xs) ≡ length xs
widths_many [] = refl
widths_many (x ∷ xs) = ap suc (widths_many xs)

more_many : (before : List ℕ) (ports : List Port) (n : ℕ) → length before ≡ n → length (before ++ port_widths ports) ≡ n + length ports
more_many [] [] n e = omega arith
more_many [] (x ∷ xs) n e = let h : length (port_widths xs) ≡ n + length xs = more_many [] xs n e in omega arith
more_many (w ∷ ws) ports n e = let h : length (ws ++ port_widths ports) ≡ length ws + length ports = more_many ws ports (length ws) refl in omega arith

module _ (m top : Module) (netlist : RawNetlist) (r : Reading) (read : IsRead m top netlist r) (i : Identifier) (is : held_instance read.design read.opened.steps ≡ Some i) where
  abbrev own : List ℕ
  own = signal_widths read.opened.signals

  abbrev first : ℕ
  first = length read.opened.signals

  widths_are : r.signals.widths ≡ own ++ (port_widths netlist.inputs ++ port_widths netlist.outputs)
  widths_are = read.widths ∙ ap (λ (o : Option Identifier). own ++ instance_widths o netlist) is

  inputs_are : r.inputs.items ≡ numbers_from first netlist.inputs
  inputs_are = read.inputs ∙ ap (λ (o : Option Identifier). input_numbers o netlist first) is

  outputs_are : r.outputs.items ≡ numbers_from (first + length netlist.inputs) netlist.outputs
  outputs_are = read.outputs ∙ ap (λ (o : Option Identifier). output_numbers o netlist first) is

  entered : Fit (own ++ (port_widths netlist.inputs ++ port_widths netlist.outputs)) first netlist.inputs
  entered = ports_fit first own netlist.inputs (port_widths netlist.outputs) (widths_many read.opened.signals)

  shown : Fit (own ++ (port_widths netlist.inputs ++ port_widths netlist.outputs)) (first + length netlist.inputs) netlist.outputs
  shown = subst (λ (ws : List ℕ). Fit ws (first + length netlist.inputs) netlist.outputs) (append_assoc own (port_widths netlist.inputs) (port_widths netlist.outputs))
      (subst (λ (ws : List ℕ). Fit ((own ++ port_widths netlist.inputs) ++ ws) (first + length netlist.inputs) netlist.outputs) (append-nil (port_widths netlist.outputs))
      (ports_fit (first + length netlist.inputs) (own ++ port_widths netlist.inputs) netlist.outputs [] (more_many own netlist.inputs first (widths_many read.opened.signals))))

  fits : (numbers : List ℕ) (n : ℕ) (ports : List Port) → numbers ≡ numbers_from n ports → Fit (own ++ (port_widths netlist.inputs ++ port_widths netlist.outputs)) n ports → PortsFit r.signals.widths numbers (bits_at ports)
  fits numbers n ports are fit =
      subst (λ (ws : List ℕ). PortsFit ws numbers (bits_at ports)) (sym widths_are)
      (subst (λ (ks : List ℕ). PortsFit (own ++ (port_widths netlist.inputs ++ port_widths netlist.outputs)) ks (bits_at ports)) (sym are) (record { widths_are = fit.0; known = fit.1 }))

  both_fit : PortsFit r.signals.widths r.inputs.items (bits_at netlist.inputs) × PortsFit r.signals.widths r.outputs.items (bits_at netlist.outputs)
  both_fit = (fits r.inputs.items first netlist.inputs inputs_are entered, fits r.outputs.items (first + length netlist.inputs) netlist.outputs outputs_are shown)

pub hidden_fit : (m top : Module) (netlist : RawNetlist) (r : Reading) → IsRead m top netlist r → some_item is_design r.items.items ≡ true → PortsFit r.signals.widths r.inputs.items (bits_at netlist.inputs) × PortsFit r.signals.widths r.outputs.items (bits_at netlist.outputs)
hidden_fit m top netlist r read some_is =
    let found = held_there (names_of r.signals.scope) read.design r.clock read.opened.steps (sym (ap (some_item is_design) read.items) ∙ some_is) in
    both_fit m top netlist r read found.0 found.1
