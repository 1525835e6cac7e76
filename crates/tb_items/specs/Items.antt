-- What the items of a testbench's module are, from the steps that an opened module lists.
use Rattle.std.specs.Prelude.{ℕ, Bool, true, false, not, ◌||◌, List, [], ◌∷◌, ◌++◌, map, Option, None, Some, if◌then◌else◌}
use Rattle.std.specs.List.{flat_map}
use Rattle.std.specs.Str.{bytes_eq}
use Rattle.mcy_base.specs.declared.span.Span.{Span}
use Rattle.vlog_syntax.specs.declared.feature.Feature.TheVariants as f
use Rattle.vlog_syntax.specs.declared.identifier.Identifier.{Identifier}
use Rattle.vlog_syntax.specs.declared.item.Delay.{Delay}
use Rattle.vlog_syntax.specs.declared.item.Item.{Item, out-Item}
use Rattle.vlog_syntax.specs.declared.item.Item.TheOpen as t
use Rattle.vlog_syntax.specs.declared.item.Item.TheOpen.{Item-F}
use Rattle.vlog_syntax.specs.declared.item.ParameterValues.{ParameterValues}
use Rattle.vlog_syntax.specs.declared.item.ParameterValues.TheVariants as v
use Rattle.vlog_syntax.specs.declared.item.PlainItem.{PlainItem}
use Rattle.vlog_syntax.specs.declared.item.PlainItem.TheVariants as p
use Rattle.vlog_syntax.specs.declared.item.Process.{Process}
use Rattle.vlog_meaning.specs.Scopes.{Names}
use Rattle.flat_scopes.specs.declared.opening.Placing.{Placing}
use Rattle.flat_scopes.specs.declared.opening.Step.{Step}
use Rattle.flat_scopes.specs.declared.opening.Step.TheVariants as s
use Rattle.tb_faults.specs.declared.fault.BenchFault.TheVariants.{Unsupported}
use Rattle.tb_items.specs.declared.design.Design.{Design}
use Rattle.tb_items.specs.declared.generator.Generator.{Generator}
use Rattle.tb_items.specs.declared.item.BenchItem.{BenchItem}
use Rattle.tb_items.specs.declared.item.BenchItem.TheVariants as b
use Rattle.tb_items.specs.Connections.{connections, taken}
use Rattle.tb_items.specs.Generators.{generator_of}
use Rattle.tb_items.specs.Reasons.{of_const, of_refusal}

-- a construct that a testbench does not have
abbrev pub helper : Span → BenchItem
helper at = b.Refused (Unsupported at f.Helper)

-- a loop or a condition, at its first token, which stands before the labels of its blocks
abbrev pub generates : Item-F Item → List BenchItem
generates (t.LoopGenerate loop body) = helper loop.span ∷ []
generates (t.IfGenerate at condition first second) = helper at ∷ []
generates other = []

-- `assign #delay ..`
abbrev pub delay_items : Option Delay → List BenchItem
delay_items None = []
delay_items (Some d) = b.Refused (Unsupported d.span f.Delay) ∷ []

abbrev pub process_item : Process → Option Generator → BenchItem
process_item x None = b.Runs x
process_item x (Some g) = b.Clocks x.span g

-- Instances. That of the design is held at the module's name; a further one of the same item at its own name.

abbrev pub has_values : ParameterValues → Bool
has_values (v.Ordered []) = false
has_values (v.Named []) = false
has_values other = true

abbrev pub held : Design → (clock : Option (List ℕ)) → Placing → List BenchItem
held d clock x = if x.is_first then b.Holds x.module_name.span ∷ connections d clock x else taken x ++ b.Holds x.instance.name.span ∷ []

-- another module, or one with parameters
abbrev pub is_strange : Design → Identifier → ParameterValues → Bool
is_strange d name values = not (bytes_eq d.name name.name) || has_values values

abbrev pub placed : Design → (clock : Option (List ℕ)) → Placing → List BenchItem
placed d clock x = if is_strange d x.module_name x.values then helper x.module_name.span ∷ [] else held d clock x

abbrev pub listed : Names → PlainItem → List BenchItem
listed names (p.ContinuousAssign at delay assignments) = delay_items delay ++ map b.Assigns assignments
listed names (p.Process x) = process_item x (generator_of names x) ∷ []
listed names other = []

abbrev pub step_items : Names → Design → (clock : Option (List ℕ)) → Step → List BenchItem
step_items names d clock (s.Declares k) = []
step_items names d clock (s.Refuses refusal) = b.Refused (of_refusal refusal) ∷ []
step_items names d clock (s.RefusesGiven error) = b.Refused (of_const error) ∷ []
step_items names d clock (s.Starts k x) = b.Starts k x ∷ []
step_items names d clock (s.Drives name x) = b.Drives name x ∷ []
step_items names d clock (s.Lists item) = listed names item
step_items names d clock (s.Places x) = placed d clock x
step_items names d clock (s.Generates k item taken) = generates (out-Item item)

-- The items of an opened module in the order of its steps, with the names of its scope, the design and the name of the clock that
-- is generated.
abbrev pub items_of : Names → Design → (clock : Option (List ℕ)) → List Step → List BenchItem
items_of names d clock = flat_map (step_items names d clock)

-- The clock: that of the first generator.

abbrev pub listed_clock : Names → PlainItem → Option Generator
listed_clock names (p.Process x) = generator_of names x
listed_clock names other = None

abbrev pub step_clock : Names → Step → Option Generator
step_clock names (s.Lists item) = listed_clock names item
step_clock names other = None

abbrev pub first_clock : Option Generator → Option (List ℕ) → Option (List ℕ)
first_clock None later = later
first_clock (Some g) later = Some g.clock.name

abbrev pub clock_of : Names → List Step → Option (List ℕ)
clock_of names [] = None
clock_of names (x ∷ more) = first_clock (step_clock names x) (clock_of names more)

-- The instance of the design: the first of its module without parameters.

abbrev pub placed_instance : Design → Placing → Option Identifier
placed_instance d x = if is_strange d x.module_name x.values then None else Some x.instance.name

abbrev pub step_instance : Design → Step → Option Identifier
step_instance d (s.Places x) = placed_instance d x
step_instance d other = None

abbrev pub or_later : Option Identifier → Option Identifier → Option Identifier
or_later None later = later
or_later (Some name) later = Some name

abbrev pub held_instance : Design → List Step → Option Identifier
held_instance d [] = None
held_instance d (x ∷ more) = or_later (step_instance d x) (held_instance d more)

-- A `generate` region, at its first token; it lists no step itself.

abbrev pub region_place : Item-F Item → Option Span
region_place (t.GenerateRegion at items) = Some at
region_place other = None

abbrev pub found_region : Option Span → Option Span → Option Span
found_region None later = later
found_region (Some at) later = Some at

abbrev pub first_region : List Item → Option Span
first_region [] = None
first_region (x ∷ more) = found_region (region_place (out-Item x)) (first_region more)
