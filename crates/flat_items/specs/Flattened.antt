-- What a design is flattened to (IEEE 1364-2005, 12.1 and 12.4). Each part of it is replaced by what it stands for, the first part
-- first: an instance by the items of its module, a condition by what it chooses, a loop by its turns.
use Rattle.std.specs.Prelude.{◌≡◌, ℕ, ◌+◌, ◌^◌, ◌%◌, ◌==◌, nat_lt, Bool, true, false, ◌||◌, List, [], ◌∷◌, ◌++◌, length, map, codes, decimal, IsSome, Option, None, Some, slice_get, Result, Ok, Err, if◌then◌else◌}
use Rattle.std.specs.Str.{bytes_eq}
use Rattle.mcy_base.specs.declared.span.Span.{Span}
use Rattle.vlog_syntax.specs.declared.expr.Expr.{Expr}
use Rattle.vlog_syntax.specs.declared.identifier.Identifier.{Identifier}
use Rattle.vlog_syntax.specs.declared.item.Item.{Item, out-Item}
use Rattle.vlog_syntax.specs.declared.item.Item.TheOpen as o
use Rattle.vlog_syntax.specs.declared.item.Item.TheOpen.{Item-F}
use Rattle.vlog_syntax.specs.declared.item.PlainItem.{PlainItem}
use Rattle.vlog_syntax.specs.declared.item.PlainItem.TheVariants as p
use Rattle.vlog_syntax.specs.declared.module.Module.{Module}
use Rattle.vlog_syntax.specs.declared.stmt.Assignment.{Assignment}
use Rattle.vlog_meaning.specs.declared.fault.Fault.{Fault}
use Rattle.vlog_meaning.specs.declared.scope.Decl.TheVariants as d
use Rattle.vlog_meaning.specs.Answers.{least, const_error}
use Rattle.vlog_meaning.specs.Scopes.{Names, nothing}
use Rattle.vlog_meaning.specs.Senses.{sense, own, assigned, constant_faults, constant_faults_at}
use Rattle.flat_scopes.specs.declared.opening.Head.{Head}
use Rattle.flat_scopes.specs.declared.opening.Step.{Step}
use Rattle.flat_scopes.specs.declared.opening.Step.TheVariants as s
use Rattle.flat_scopes.specs.declared.refusal.Refusal.TheVariants.{Twice}
use Rattle.flat_scopes.specs.declared.signal.Signal.{Signal}
use Rattle.flat_scopes.specs.declared.signal.What.{What}
use Rattle.flat_scopes.specs.declared.signal.What.TheVariants as w
use Rattle.flat_scopes.specs.Openings.{Opened, unopened, own_name, is_among}
use Rattle.flat_scopes.specs.Opens.{Opens, labels_of}
use Rattle.flat_scopes.specs.Owns.{Own}
use Rattle.flat_scopes.specs.Words.{word}
use Rattle.flat_instances.specs.declared.error.ItemError.{ItemError}
use Rattle.flat_instances.specs.declared.error.ItemError.TheVariants as e
use Rattle.flat_instances.specs.declared.item.FlatItem.{FlatItem}
use Rattle.flat_instances.specs.declared.item.FlatItem.TheVariants as f
use Rattle.flat_items.specs.declared.task.Task.{Task}
use Rattle.flat_items.specs.declared.task.Task.TheVariants as t
use Rattle.flat_items.specs.declared.task.Turn.{Turn}
use Rattle.flat_instances.specs.Instances.{inner_prefix, no_names}
use Rattle.flat_instances.specs.Places.{Place}

-- What there is so far: the signals, the scopes and the items.
pub record Flat : Type 0 where
  pub signals : List Signal
  pub places : List Place
  pub items : List FlatItem

abbrev pub add_all : Flat → List FlatItem → Flat
add_all flat items = record flat { items = flat.items ++ items }

-- No name is looked up in a scope in which nothing is listed, and it keeps none.
abbrev pub kept_names : List Step → Names → Names
kept_names [] names = no_names
kept_names (s ∷ more) names = names

-- a scope that was opened is the next place
abbrev pub entered : Flat → (prefix : List ℕ) → (around : Option ℕ) → (within : List ℕ) → Opened → Flat
entered flat prefix around within child =
    record flat {
      signals = child.signals;
      places = flat.places ++ record { prefix = prefix; names = kept_names child.steps child.names; own = child.own; around = around; within = within } ∷ [];
    }

-- Within its top a design has at most 65,536 scopes: instances, blocks that conditions chose, and turns of loops. It is full where there
-- is no room for another one. The top is a place too.

abbrev pub max_scopes : ℕ
max_scopes = 65536

abbrev pub is_full : Flat → Bool
is_full flat = nat_lt max_scopes (length flat.places)

abbrev pub tasks_of : (place : ℕ) → List Step → List Task
tasks_of k steps = map (t.Step k) steps

-- Steps of the scope with the number k: what they list, and what is left to be replaced.

abbrev pub assigned_items : (place : ℕ) → List Assignment → List FlatItem
assigned_items k [] = []
assigned_items k (a ∷ more) = f.Assigns k a.left a.value ∷ assigned_items k more

abbrev pub plain_items : (place : ℕ) → PlainItem → List FlatItem
plain_items k (p.ContinuousAssign at None assignments) = assigned_items k assignments
plain_items k (p.ContinuousAssign at (Some delay) assignments) = f.Refuses (e.Delay delay.span) ∷ []
plain_items k (p.Process process) = f.Runs k process ∷ []
plain_items k other = []

-- why a given value is no constant was listed with its instance
abbrev pub step_items : (place : ℕ) → Step → List FlatItem
step_items k (s.Declares n) = f.Declares n ∷ []
step_items k (s.Refuses r) = f.Refuses (e.Declaration r) ∷ []
step_items k (s.RefusesGiven c) = []
step_items k (s.Starts n value) = f.Starts n k value ∷ []
step_items k (s.Drives name value) = f.Drives k name value ∷ []
step_items k (s.Lists x) = plain_items k x
step_items k (s.Places x) = []
step_items k (s.Generates n item taken) = []

abbrev pub step_tasks : (place : ℕ) → Step → List Task
step_tasks k (s.Places x) = t.Instance k x ∷ []
step_tasks k (s.Generates n item taken) = t.Generates k n item taken ∷ []
step_tasks k other = []

-- Instances.

-- the number of the first module of this name
abbrev pub module_from : ℕ → List Module → List ℕ → Option ℕ
module_from k [] name = None
module_from k (m ∷ more) name = if bytes_eq m.name name then Some k else module_from (k + 1) more name

abbrev pub module_at : List Module → List ℕ → Option ℕ
module_at modules name = module_from 0 modules name

abbrev pub is_within : ℕ → List ℕ → Bool
is_within n [] = false
is_within n (m ∷ more) = (m == n) || is_within n more

-- the module of an instance, or why it is not placed: there is no such module, it stands in itself, or the design is full
abbrev pub placed_in : (full : Bool) → Identifier → Option ℕ → (within : List ℕ) → Result ℕ ItemError
placed_in full name None within = Err (e.Unknown name.span)
placed_in full name (Some n) within = if is_within n within then Err (e.Recursive name.span) else (if full then Err e.Scopes else Ok n)

-- Constants of generate constructs: conditions stand for themselves, a loop's start and step have the 32 bits of its variable.

abbrev pub faultless : Option Fault → ℕ → Result ℕ ItemError
faultless None value = Ok value
faultless (Some fault) value = Err (e.Constant (const_error fault))

abbrev pub condition_in : Names → Expr → Result ℕ ItemError
condition_in names x = faultless (least (constant_faults (sense names x))) (own nothing (sense names x))

abbrev pub integer_in : Names → Expr → Result ℕ ItemError
integer_in names x = faultless (least (constant_faults_at (sense names x) (assigned (sense names x) 32))) ((sense names x).value nothing (assigned (sense names x) 32) % 2 ^ 32)

-- A label of a construct that stands already is told at its place among what is wrong in the construct: behind the conditions before
-- it, and behind a loop's genvar, start and first condition; ahead of the conditions behind it, and of what is in the blocks.

abbrev pub taken_tasks : Option Identifier → List Task
taken_tasks None = []
taken_tasks (Some label) = t.Refuses (e.Declaration (Twice label.span)) ∷ []

-- it is a label of the part that is passed over
abbrev pub is_passed : Item → Option Identifier → Bool
is_passed first None = false
is_passed first (Some label) = is_among (labels_of first) label.name

-- what stands behind `else`, if there is something
abbrev pub other_tasks : (place number : ℕ) → Item → Option Item → (taken : Option Identifier) → List Task
other_tasks k n first None taken = taken_tasks taken
other_tasks k n first (Some second) taken = if is_passed first taken then taken_tasks taken ++ t.Arm k n second None ∷ [] else t.Arm k n second taken ∷ []

abbrev pub chosen_tasks : (place number : ℕ) → Result ℕ ItemError → Item → Option Item → (taken : Option Identifier) → List Task
chosen_tasks k n (Err x) first second taken = t.Refuses x ∷ []
chosen_tasks k n (Ok value) first second taken = if value == 0 then other_tasks k n first second taken else t.Arm k n first taken ∷ []

-- Blocks (12.4.3).

abbrev pub own_label : Item-F Item → Option Identifier
own_label (o.GenerateBlock at name items) = name
own_label other = None

abbrev pub label_of : Item → Option Identifier
label_of x = own_label (out-Item x)

-- the items of a block, which may be one item without `begin`
abbrev pub items_in : Item → Item-F Item → List Item
items_in x (o.GenerateBlock at name items) = items
items_in x (o.NullGenerate at) = []
items_in x other = x ∷ []

abbrev pub block_items : Item → List Item
block_items x = items_in x (out-Item x)

-- A block without a label is named by the number of its construct, behind as many zeros as there must be so that the scope
-- around has no other name like it.
pub data IsFree (own_names : Own) (number : ℕ) : (prefix name : List ℕ) → Type 0 where
  free : (prefix : List ℕ) → own_names (prefix ++ decimal number) ≡ None → IsFree own_names number prefix (prefix ++ decimal number)
  taken : (prefix name : List ℕ) → IsSome (own_names (prefix ++ decimal number)) → IsFree own_names number (prefix ++ codes "0") name → IsFree own_names number prefix name

pub data IsBlockName (own_names : Own) (number : ℕ) : Option Identifier → List ℕ → Type 0 where
  labelled : (label : Identifier) → IsBlockName own_names number (Some label) label.name
  unlabelled : (name : List ℕ) → IsFree own_names number (codes "genblk") name → IsBlockName own_names number None name

abbrev pub block_head : (prefix : List ℕ) → Head
block_head prefix = record { prefix = prefix; ports = []; given = [] }

-- A block of this name in the scope with the number k is opened over that scope.
pub record OpensBlock (k : ℕ) (place : Place) (name : List ℕ) (start : Opened) (block : Item) (flat : Flat) (tasks : List Task) (next : Flat) : Type 0 where
  pub child : Opened
  pub opens : Opens (block_head (inner_prefix place.prefix name)) no_names start (block_items block) child
  pub listed : tasks ≡ tasks_of (length flat.places) child.steps
  pub enters : next ≡ entered flat (inner_prefix place.prefix name) (Some k) place.within child

-- Loops (12.4.1).

-- What a name stands for in the scope with the number k: it is looked for there, and then in the scopes around.
pub data Sees (places : List Place) (name : List ℕ) : ℕ → Option What → Type 0 where
  here : (k : ℕ) (place : Place) (what : What) → slice_get places k ≡ Some place → place.own name ≡ Some what → Sees places name k (Some what)
  outside : (k j : ℕ) (place : Place) (what : Option What) → slice_get places k ≡ Some place → place.own name ≡ None → place.around ≡ Some j → Sees places name j what → Sees places name k what
  nowhere : (k : ℕ) (place : Place) → slice_get places k ≡ Some place → place.own name ≡ None → place.around ≡ None → Sees places name k None

-- why a name is no genvar
abbrev pub genvar_fault : Option What → Span → Option ItemError
genvar_fault (Some w.Genvar) at = None
genvar_fault (Some (w.Variable k)) at = Some (e.NotConstant at)
genvar_fault other at = Some (e.Unknown at)

-- in a turn the variable is a constant, a signed number of 32 bits
abbrev pub turn_start : Place → List Signal → Turn → Opened
turn_start place signals x = own_name (unopened place.names signals) x.head.name.name w.Constant (Some (d.Constant (word 32 x.value) 0 true))
