-- What each part of a design is replaced by, until nothing is left to be replaced (IEEE 1364-2005, 12.1 and 12.4).
use Rattle.std.specs.Prelude.{◌≡◌, ℕ, ◌+◌, ◌-◌, ◌^◌, ◌==◌, nat_le, Bool, true, false, List, [], ◌∷◌, ◌++◌, length, codes, decimal, Option, None, Some, slice_get, Result, Ok, Err, if◌then◌else◌}
use Rattle.std.specs.Str.{bytes_eq}
use Rattle.mcy_base.specs.declared.span.Span.{Span}
use Rattle.vlog_syntax.specs.declared.expr.Expr.{Expr}
use Rattle.vlog_syntax.specs.declared.identifier.Identifier.{Identifier}
use Rattle.vlog_syntax.specs.declared.item.GenerateLoop.{GenerateLoop}
use Rattle.vlog_syntax.specs.declared.item.Item.{Item, out-Item}
use Rattle.vlog_syntax.specs.declared.item.Item.TheVariants as i
use Rattle.vlog_syntax.specs.declared.item.Item.TheOpen as o
use Rattle.vlog_syntax.specs.declared.item.Item.TheOpen.{Item-F}
use Rattle.vlog_syntax.specs.declared.module.Module.{Module}
use Rattle.flat_scopes.specs.declared.opening.Head.{Head}
use Rattle.flat_scopes.specs.declared.opening.Placing.{Placing}
use Rattle.flat_scopes.specs.declared.opening.Step.{Step}
use Rattle.flat_scopes.specs.declared.signal.What.{What}
use Rattle.flat_scopes.specs.declared.signal.What.TheVariants as w
use Rattle.flat_scopes.specs.Openings.{Opened, unopened}
use Rattle.flat_scopes.specs.Opens.{OpensModule}
use Rattle.flat_instances.specs.declared.error.ItemError.{ItemError}
use Rattle.flat_instances.specs.declared.error.ItemError.TheVariants as e
use Rattle.flat_instances.specs.declared.item.FlatItem.{FlatItem}
use Rattle.flat_instances.specs.declared.item.FlatItem.TheVariants as f
use Rattle.flat_items.specs.declared.task.Task.{Task}
use Rattle.flat_items.specs.declared.task.Task.TheVariants as t
use Rattle.flat_items.specs.declared.task.Turn.{Turn}
use Rattle.flat_items.specs.declared.turn.Outcome.{Outcome}
use Rattle.flat_items.specs.declared.turn.Outcome.TheVariants.{Goes, Ends, Refused}
use Rattle.flat_items.specs.Flattened.{Flat, add_all, entered, is_full, tasks_of, step_items, step_tasks, module_at, placed_in, condition_in, integer_in, taken_tasks, chosen_tasks, label_of, IsBlockName, OpensBlock, Sees, genvar_fault, turn_start}
use Rattle.flat_instances.specs.Instances.{inner_prefix, no_names, OpensInstance}
use Rattle.flat_instances.specs.Places.{Place}
use Rattle.flat_scopes.specs.Wires.{ports_of}

-- An instance of the module with the number n stands in the place with the number k: its module is the next place.
pub record PlacesInstance (modules : List Module) (n k : ℕ) (place : Place) (x : Placing) (flat : Flat) (tasks : List Task) (next : Flat) : Type 0 where
  pub m : Module
  pub numbered : slice_get modules n ≡ Some m
  pub child : Opened
  pub items : List FlatItem
  pub opens : OpensInstance place k (length flat.places) m x flat.signals child items
  pub listed : tasks ≡ tasks_of (length flat.places) child.steps
  pub enters : next ≡ entered (add_all flat items) (inner_prefix place.prefix x.instance.name.name) None (n ∷ place.within) child

-- Turns of a loop (12.4.1).

-- `name[value]`
abbrev pub index_text : ℕ → List ℕ
index_text value = if nat_le (2 ^ 31) value then codes "-" ++ decimal (2 ^ 32 - value) else decimal value

abbrev pub turn_name : List ℕ → ℕ → List ℕ
turn_name name value = name ++ codes "[" ++ index_text value ++ codes "]"

-- A loop ends where its condition is false, and is refused where the condition is, where there were 4,096 turns, or where the design is
-- full.

abbrev pub turn_outcome : (full : Bool) → (count : ℕ) → Outcome
turn_outcome full count = if nat_le 4096 count then Refused e.LoopTurns else (if full then Refused e.Scopes else Goes)

abbrev pub outcome : (full : Bool) → Result ℕ ItemError → (count : ℕ) → Outcome
outcome full (Err error) count = Refused error
outcome full (Ok value) count = if value == 0 then Ends else turn_outcome full count

-- The next turn, with the value that the step gives the variable. A step of another name is refused.

abbrev pub step_fault : Option What → Span → ItemError
step_fault (Some (w.Variable k)) at = e.NotConstant at
step_fault other at = e.Unknown at

abbrev pub stepped : (place : ℕ) → Turn → Result ℕ ItemError → Task
stepped k x (Err error) = t.Refuses error
stepped k x (Ok value) = t.Turn k (record x { count = x.count + 1; value = value; taken = None })

abbrev pub next_turn : (place : ℕ) → Turn → Option What → Result ℕ ItemError → Task
next_turn k x what value = if bytes_eq x.head.step_name.name x.head.name.name then stepped k x value else t.Refuses (step_fault what x.head.step_name.span)

abbrev pub first_turn : (name : List ℕ) → GenerateLoop → Item → (value : ℕ) → (taken : Option Identifier) → Turn
first_turn name head body value taken = record { name = name; head = head; body = body; count = 0; value = value; taken = taken }

abbrev pub is_block_form : Item-F Item → Bool
is_block_form (o.NullGenerate at) = false
is_block_form (o.IfGenerate at condition first second) = false
is_block_form other = true

abbrev pub is_construct_form : Item-F Item → Bool
is_construct_form (o.LoopGenerate head body) = true
is_construct_form (o.IfGenerate at condition first second) = true
is_construct_form other = false

-- A turn that there is, in the scope with the number k: its block is opened, and the next turn comes behind it. In the first turn the
-- label is told ahead of the block, where it stands already.
pub record TurnsOnce (k : ℕ) (place : Place) (x : Turn) (start : Opened) (flat : Flat) (tasks : List Task) (next : Flat) : Type 0 where
  pub what : Option What
  pub sees : Sees flat.places x.head.step_name.name k what
  pub inner : List Task
  pub opens : OpensBlock k place (turn_name x.name x.value) start x.body flat inner next
  pub all : tasks ≡ taken_tasks x.taken ++ (inner ++ next_turn k x what (integer_in start.names x.head.step) ∷ [])

-- One part of a design, with what there is so far, and what stands in its place and there is then.
pub data Replaces (modules : List Module) : Task → Flat → List Task → Flat → Type 0 where
  step : (k : ℕ) (x : Step) (flat : Flat) → Replaces modules (t.Step k x) flat (step_tasks k x) (add_all flat (step_items k x))
  refused : (error : ItemError) (flat : Flat) → Replaces modules (t.Refuses error) flat [] (add_all flat (f.Refuses error ∷ []))
  -- instances
  not_placed : (k : ℕ) (x : Placing) (flat : Flat) (place : Place) (error : ItemError)
      → slice_get flat.places k ≡ Some place → placed_in (is_full flat) x.module_name (module_at modules x.module_name.name) place.within ≡ Err error
      → Replaces modules (t.Instance k x) flat (t.Refuses error ∷ []) flat
  placed : (k : ℕ) (x : Placing) (flat next : Flat) (place : Place) (n : ℕ) (tasks : List Task)
      → slice_get flat.places k ≡ Some place → placed_in (is_full flat) x.module_name (module_at modules x.module_name.name) place.within ≡ Ok n
      → PlacesInstance modules n k place x flat tasks next
      → Replaces modules (t.Instance k x) flat tasks next
  -- conditions
  condition : (k n : ℕ) (at : Span) (c : Expr) (first : Item) (second : Option Item) (taken : Option Identifier) (flat : Flat) (place : Place)
      → slice_get flat.places k ≡ Some place
      → Replaces modules (t.Generates k n (i.IfGenerate at c first second) taken) flat (chosen_tasks k n (condition_in place.names c) first second taken) flat
  arm_null : (k n : ℕ) (at : Span) (taken : Option Identifier) (flat : Flat) → Replaces modules (t.Arm k n (i.NullGenerate at) taken) flat (taken_tasks taken) flat
  -- a condition that a condition chooses belongs to the same construct
  arm_condition : (k n : ℕ) (at : Span) (c : Expr) (first : Item) (second : Option Item) (taken : Option Identifier) (flat : Flat)
      → Replaces modules (t.Arm k n (i.IfGenerate at c first second) taken) flat (t.Generates k n (i.IfGenerate at c first second) taken ∷ []) flat
  -- a block that a condition chooses has its scope, unless the design is full
  arm_full : (k n : ℕ) (item : Item) (taken : Option Identifier) (flat : Flat) → is_block_form (out-Item item) ≡ true → is_full flat ≡ true → Replaces modules (t.Arm k n item taken) flat (t.Refuses e.Scopes ∷ []) flat
  arm_block : (k n : ℕ) (item : Item) (taken : Option Identifier) (flat next : Flat) (place : Place) (name : List ℕ) (tasks : List Task)
      → is_block_form (out-Item item) ≡ true → is_full flat ≡ false → slice_get flat.places k ≡ Some place → IsBlockName place.own n (label_of item) name
      → OpensBlock k place name (unopened place.names flat.signals) item flat tasks next
      → Replaces modules (t.Arm k n item taken) flat (taken_tasks taken ++ tasks) next
  -- loops
  bad_genvar : (k n : ℕ) (head : GenerateLoop) (body : Item) (taken : Option Identifier) (flat : Flat) (what : Option What) (error : ItemError)
      → Sees flat.places head.name.name k what → genvar_fault what head.name.span ≡ Some error
      → Replaces modules (t.Generates k n (i.LoopGenerate head body) taken) flat (t.Refuses error ∷ []) flat
  bad_start : (k n : ℕ) (head : GenerateLoop) (body : Item) (taken : Option Identifier) (flat : Flat) (what : Option What) (place : Place) (error : ItemError)
      → Sees flat.places head.name.name k what → genvar_fault what head.name.span ≡ None → slice_get flat.places k ≡ Some place → integer_in place.names head.start ≡ Err error
      → Replaces modules (t.Generates k n (i.LoopGenerate head body) taken) flat (t.Refuses error ∷ []) flat
  loop : (k n : ℕ) (head : GenerateLoop) (body : Item) (taken : Option Identifier) (flat : Flat) (what : Option What) (place : Place) (value : ℕ) (name : List ℕ)
      → Sees flat.places head.name.name k what → genvar_fault what head.name.span ≡ None → slice_get flat.places k ≡ Some place → integer_in place.names head.start ≡ Ok value
      → IsBlockName place.own n (label_of body) name
      → Replaces modules (t.Generates k n (i.LoopGenerate head body) taken) flat (t.Turn k (first_turn name head body value taken) ∷ []) flat
  turn_ended : (k : ℕ) (x : Turn) (flat : Flat) (place : Place)
      → slice_get flat.places k ≡ Some place → outcome (is_full flat) (condition_in (turn_start place flat.signals x).names x.head.condition) x.count ≡ Ends
      → Replaces modules (t.Turn k x) flat (taken_tasks x.taken) flat
  bad_turn : (k : ℕ) (x : Turn) (flat : Flat) (place : Place) (error : ItemError)
      → slice_get flat.places k ≡ Some place → outcome (is_full flat) (condition_in (turn_start place flat.signals x).names x.head.condition) x.count ≡ Refused error
      → Replaces modules (t.Turn k x) flat (t.Refuses error ∷ []) flat
  turn : (k : ℕ) (x : Turn) (flat next : Flat) (place : Place) (tasks : List Task)
      → slice_get flat.places k ≡ Some place → outcome (is_full flat) (condition_in (turn_start place flat.signals x).names x.head.condition) x.count ≡ Goes
      → TurnsOnce k place x (turn_start place flat.signals x) flat tasks next
      → Replaces modules (t.Turn k x) flat tasks next
  -- nothing else is a construct
  no_construct : (k n : ℕ) (item : Item) (taken : Option Identifier) (flat : Flat) → is_construct_form (out-Item item) ≡ false → Replaces modules (t.Generates k n item taken) flat [] flat

-- The parts are replaced, the first one first, until none is left.
pub data Flattens (modules : List Module) : List Task → Flat → Flat → Type 0 where
  flattened : (flat : Flat) → Flattens modules [] flat flat
  replaces : (task : Task) (tasks more : List Task) (flat next last : Flat) → Replaces modules task flat tasks next → Flattens modules (tasks ++ more) next last → Flattens modules (task ∷ more) flat last

-- A module whose name another has before it is refused ahead of all items.

abbrev pub is_number : Option ℕ → ℕ → Bool
is_number None k = false
is_number (Some n) k = n == k

abbrev pub repeated : (modules : List Module) → (number : ℕ) → List Module → List FlatItem
repeated modules k [] = []
repeated modules k (m ∷ more) = if is_number (module_at modules m.name) k then repeated modules (k + 1) more else f.Refuses (e.Twice m.span) ∷ repeated modules (k + 1) more

abbrev pub top_head : Module → Head
top_head m = record { prefix = []; ports = ports_of m.ports; given = [] }

-- The design that has the module of this number as its top: no instance gives it values, and nothing stands before its names.
pub record FlattensModule (modules : List Module) (number : ℕ) (flat : Flat) : Type 0 where
  pub m : Module
  pub numbered : slice_get modules number ≡ Some m
  pub child : Opened
  pub opens : OpensModule (top_head m) no_names m (unopened no_names []) child
  pub flattens : Flattens modules (tasks_of 0 child.steps) (entered (record { signals = []; places = []; items = repeated modules 0 modules }) [] None (number ∷ []) child) flat

pub record FlattensTop (modules : List Module) (top : List ℕ) (flat : Flat) : Type 0 where
  pub number : ℕ
  pub named : module_at modules top ≡ Some number
  pub design : FlattensModule modules number flat
