-- What the items of a testbench are refused for: each by itself, and by what stands before it.
use Rattle.std.specs.Prelude.{◌≡◌, ℕ, ◌<◌, ◌%◌, ◌^◌, nat_eq, Bool, true, false, not, ◌&&◌, ◌||◌, List, [], ◌∷◌, ◌++◌, map, take, length, Option, None, Some, slice_get, if◌then◌else◌}
use Rattle.std.specs.Option.{option_map}
use Rattle.mcy_base.specs.declared.span.Span.{Span}
use Rattle.vlog_syntax.specs.declared.expr.Expr.{Expr}
use Rattle.vlog_syntax.specs.declared.feature.Feature.TheVariants.{Helper, ClockStart}
use Rattle.vlog_syntax.specs.declared.stmt.Assignment.{Assignment}
use Rattle.vlog_meaning.specs.declared.fault.Cause.TheVariants.{Unknown}
use Rattle.vlog_meaning.specs.declared.fault.ConstError.{ConstError}
use Rattle.vlog_meaning.specs.declared.scope.Decl.{Decl}
use Rattle.vlog_meaning.specs.declared.scope.Decl.TheVariants.{Signal}
use Rattle.vlog_meaning.specs.Answers.{const_error, least}
use Rattle.vlog_meaning.specs.Scopes.{Names, nothing as no_values}
use Rattle.vlog_meaning.specs.Senses.{sense, assigned, constant_faults_at}
use Rattle.flat_scopes.specs.declared.signal.Signal.{Signal as Declared}
use Rattle.tb_faults.specs.declared.fault.BenchFault.{BenchFault}
use Rattle.tb_faults.specs.declared.fault.BenchFault.TheVariants as r
use Rattle.tb_faults.specs.Order.{IsFirst}
use Rattle.tb_checks.specs.Expressions.{own_faults}
use Rattle.tb_checks.specs.Nets.{form_faults, assign_faults}
use Rattle.tb_checks.specs.Processes.{process_faults, starts_clock}
use Rattle.tb_items.specs.declared.generator.Generator.{Generator}
use Rattle.tb_items.specs.declared.item.BenchItem.{BenchItem}
use Rattle.tb_items.specs.declared.item.BenchItem.TheVariants as b
use Rattle.tb_items.specs.Assignments.{assignment_of}
use Rattle.tb_items.specs.Designs.{is_clock}
use Rattle.tb_items.specs.Reasons.{wrong, of_const}
use Rattle.tb_writers.specs.Writers.{Written, nothing, with_outputs, with_items, writer_faults}

-- The names of a testbench's module, the hidden ones among them; its signals, by their numbers; the name of its clock; and whether the
-- clock generator leaves the clock's first value to an `initial`; and the hidden signals of the design's outputs, by their numbers.
pub record Context : Type 0 where
  pub names : Names
  pub signals : List Declared
  pub clock : Option (List ℕ)
  pub is_free : Bool
  pub outputs : List ℕ

-- Start values. One is a constant, at the width of its signal; that of the clock is 0, or is refused at the clock's name.

abbrev pub start_error : Names → ℕ → Expr → Option ConstError
start_error names width x = option_map const_error (least (constant_faults_at (sense names x) (assigned (sense names x) width)))

abbrev pub start_value : Names → ℕ → Expr → ℕ
start_value names width x = (sense names x).value no_values (assigned (sense names x) width) % 2 ^ width

abbrev pub value_faults : (is_clock : Bool) → Span → Option ConstError → ℕ → List BenchFault
value_faults clock at (Some error) v = of_const error ∷ []
value_faults clock at None v = if clock && not (nat_eq v 0) then r.Unsupported at ClockStart ∷ [] else []

abbrev pub start_faults : Context → (is_clock : Bool) → Span → Expr → Option Decl → List BenchFault
start_faults c clock at x (Some (Signal width low is_signed number)) = value_faults clock at (start_error c.names width x) (start_value c.names width x)
start_faults c clock at x other = r.Wrong (record { cause = Unknown; span = at }) ∷ []

abbrev pub declared_start : Context → Expr → Option Declared → List BenchFault
declared_start c x None = []
declared_start c x (Some s) = start_faults c (is_clock c.clock s.name) s.span x (c.names s.name)

-- The clock generator: the name of its clock, the constant that it begins with, and its delay.

abbrev pub name_faults : Span → Option Decl → List BenchFault
name_faults at (Some (Signal width low is_signed number)) = []
name_faults at other = wrong Unknown at ∷ []

abbrev pub first_faults : Context → Generator → Option Expr → List BenchFault
first_faults c g None = name_faults g.clock.span (c.names g.clock.name)
first_faults c g (Some x) = start_faults c true g.clock.span x (c.names g.clock.name)

abbrev pub generator_faults : Context → Generator → List BenchFault
generator_faults c g = first_faults c g g.first ++ map r.Wrong (own_faults c.names g.delay)

-- What stands before an item.

abbrev pub is_generator : BenchItem → Bool
is_generator (b.Clocks at g) = true
is_generator other = false

abbrev pub is_design : BenchItem → Bool
is_design (b.Holds at) = true
is_design other = false

-- an `initial` that sets the clock
abbrev pub is_start : Context → BenchItem → Bool
is_start c (b.Runs p) = starts_clock c.names c.clock p
is_start c other = false

abbrev pub some_item : (BenchItem → Bool) → List BenchItem → Bool
some_item p [] = false
some_item p (x ∷ more) = p x || some_item p more

-- what is refused as a second one
abbrev pub second : Bool → BenchFault → List BenchFault
second true fault = fault ∷ []
second false fault = []

-- one `initial` may set the clock, where the generator does not
abbrev pub may_start : Context → List BenchItem → Bool
may_start c before = c.is_free && not (some_item (is_start c) before)

abbrev pub net_faults : Context → Option Assignment → List BenchFault
net_faults c None = []
net_faults c (Some a) = assign_faults c.names a.left a.value

abbrev pub own_item_faults : Context → (before : List BenchItem) → BenchItem → List BenchFault
own_item_faults c before (b.Refused fault) = fault ∷ []
own_item_faults c before (b.Starts k x) = declared_start c x (slice_get c.signals k)
own_item_faults c before (b.Clocks at g) = second (some_item is_generator before) (r.TwoClocks at) ++ generator_faults c g
own_item_faults c before (b.Runs p) = process_faults c.names c.clock (may_start c before) p
own_item_faults c before (b.Holds at) = second (some_item is_design before) (r.Unsupported at Helper)
own_item_faults c before (b.Reads x) = map r.Wrong (form_faults c.names x)
own_item_faults c before other = net_faults c (assignment_of other)

-- what is written behind these
abbrev pub written : Context → List BenchItem → Written
written c before = with_items c.names (with_outputs nothing c.outputs) before

-- what an item is refused for behind these: what is wrong in itself, and bits that are written already
abbrev pub item_faults : Context → (before : List BenchItem) → BenchItem → List BenchFault
item_faults c before item = own_item_faults c before item ++ writer_faults c.names (written c before) item

-- The first fault of items.

-- the first so many items have none
abbrev pub AreFaultless : Context → List BenchItem → ℕ → Type 0
AreFaultless c items n = (k : ℕ) (item : BenchItem) → k < n → slice_get items k ≡ Some item → item_faults c (take k items) item ≡ []

-- the first item that has a fault, with its first
pub record IsRefused (c : Context) (items : List BenchItem) (fault : BenchFault) : Type 0 where
  pub place : ℕ
  pub item : BenchItem
  pub there : slice_get items place ≡ Some item
  pub before : AreFaultless c items place
  pub first : IsFirst (item_faults c (take place items) item) (Some fault)

abbrev pub IsFirstIn : Context → List BenchItem → Option BenchFault → Type 0
IsFirstIn c items None = AreFaultless c items (length items)
IsFirstIn c items (Some fault) = IsRefused c items fault

-- Whether the generator of items leaves the clock's first value to an `initial`.

abbrev pub leaves_first : Option Expr → Bool
leaves_first None = true
leaves_first (Some x) = false

abbrev pub is_free : List BenchItem → Bool
is_free [] = false
is_free (b.Clocks at g ∷ more) = leaves_first g.first
is_free (item ∷ more) = is_free more

-- Items have one first fault, or none.
abbrev pub OneFirst : Type 0
OneFirst = (c : Context) (items : List BenchItem) (f g : Option BenchFault) → IsFirstIn c items f → IsFirstIn c items g → f ≡ g
