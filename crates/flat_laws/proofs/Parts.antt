-- What each part of a design keeps where it is replaced: the design so far stands, and so do the parts that are left.
use Rattle.flat_laws.proofs.Common.{◌≡◌, ℕ, ◌+◌, ◌<◌, ◌≤◌, List, [], ◌∷◌, ◌++◌, length, Option, None, Some, Result, Ok, Err, refl, sym, ap, arith, slice_get, ◌==◌, append-nil, Identifier, Item}
use Rattle.flat_laws.proofs.Common.{PlainItem, Step, ItemError, FlatItem, Task, Place, AreSized, PlaceStands, AllStand, times_declared}
use Rattle.vlog_syntax.specs.declared.item.PlainItem.TheVariants as p
use Rattle.vlog_syntax.specs.declared.stmt.Assignment.{Assignment}
use Rattle.flat_scopes.specs.declared.opening.Step.TheVariants as s
use Rattle.flat_instances.specs.declared.error.ItemError.TheVariants as err
use Rattle.flat_instances.specs.declared.item.FlatItem.TheVariants as f
use Rattle.flat_items.specs.declared.task.Task.TheVariants as t
use Rattle.flat_items.specs.Flattened.{Flat, add_all, tasks_of, assigned_items, plain_items, step_items, step_tasks, taken_tasks, is_passed, other_tasks, chosen_tasks}
use Rattle.flat_laws.proofs.Lists.{either, below}
use Rattle.flat_laws.proofs.Growing.{Grows, AllSteps, StepStands, listed, times_listed, grows_self, step_on}
use Rattle.flat_laws.proofs.Items.{items_more, declared_more, AreListed, listed_stand, listed_none}

-- Parts.

abbrev pub TaskStands : ℕ → ℕ → Task → Type 0
TaskStands n m (t.Step k x) = (k < m) × StepStands n x
TaskStands n m (t.Instance k x) = k < m
TaskStands n m (t.Generates k number item taken) = k < m
TaskStands n m (t.Arm k number item taken) = k < m
TaskStands n m (t.Turn k x) = k < m
TaskStands n m (t.Refuses error) = Unit {0}

abbrev pub AllTasks : ℕ → ℕ → List Task → Type 0
AllTasks n m [] = Unit {0}
AllTasks n m (x ∷ more) = TaskStands n m x × AllTasks n m more

-- the declarations of a signal that are left
abbrev pub left : ℕ → Task → ℕ
left k (t.Step j x) = listed k x
left k other = 0

abbrev pub times_left : ℕ → List Task → ℕ
times_left k [] = 0
times_left k (x ∷ more) = left k x + times_left k more

task_on : (n m n' m' : ℕ) (x : Task) → n ≤ n' → m ≤ m' → TaskStands n m x → TaskStands n' m' x
task_on n m n' m' (t.Step k x) a b h = let y = h.0 in (omega (arith, b, y), step_on n n' x a h.1)
task_on n m n' m' (t.Instance k x) a b h = omega (arith, b, h)
task_on n m n' m' (t.Generates k number item taken) a b h = omega (arith, b, h)
task_on n m n' m' (t.Arm k number item taken) a b h = omega (arith, b, h)
task_on n m n' m' (t.Turn k x) a b h = omega (arith, b, h)
task_on n m n' m' (t.Refuses error) a b h = tt

pub tasks_on : (n m n' m' : ℕ) (xs : List Task) → n ≤ n' → m ≤ m' → AllTasks n m xs → AllTasks n' m' xs
tasks_on n m n' m' [] a b h = tt
tasks_on n m n' m' (x ∷ more) a b h = (task_on n m n' m' x a b h.0, tasks_on n m n' m' more a b h.1)

pub tasks_more : (n m : ℕ) (xs ys : List Task) → AllTasks n m xs → AllTasks n m ys → AllTasks n m (xs ++ ys)
tasks_more n m [] ys h g = g
tasks_more n m (x ∷ xs) ys h g = (h.0, tasks_more n m xs ys h.1 g)

pub left_more : (k : ℕ) (xs ys : List Task) → times_left k (xs ++ ys) ≡ times_left k xs + times_left k ys
left_more k [] ys = omega arith
left_more k (x ∷ xs) ys = let e = left_more k xs ys in omega (arith, e)

-- the steps of a scope

pub steps_stand : (n m k : ℕ) (xs : List Step) → k < m → AllSteps n xs → AllTasks n m (tasks_of k xs)
steps_stand n m k [] less h = tt
steps_stand n m k (x ∷ xs) less h = ((less, h.0), steps_stand n m k xs less h.1)

pub steps_left : (k j : ℕ) (xs : List Step) → times_left k (tasks_of j xs) ≡ times_listed k xs
steps_left k j [] = refl
steps_left k j (x ∷ xs) = ap (λ (n : ℕ). listed k x + n) (steps_left k j xs)

-- Designs.

pub record FlatStands (flat : Flat) : Type 0 where
  pub sized : AreSized flat.signals
  pub places : (i : ℕ) (p : Place) → slice_get flat.places i ≡ Some p → PlaceStands flat.signals p
  pub items : AllStand (length flat.signals) (length flat.places) flat.items

-- A part in which so many declarations were left is replaced by these.
pub record Moves (gone : ℕ → ℕ) (flat : Flat) (tasks : List Task) (next : Flat) : Type 0 where
  pub grows : Grows flat.signals next.signals
  pub wider : length flat.places ≤ length next.places
  pub stands : FlatStands next
  pub tasks_stand : AllTasks (length next.signals) (length next.places) tasks
  pub kept : (more : List FlatItem) × (next.items ≡ flat.items ++ more)
  pub first : (p : Place) → slice_get flat.places 0 ≡ Some p → slice_get next.places 0 ≡ Some p
  pub once : (k : ℕ) → times_declared k next.items + times_left k tasks + below k (length flat.signals) ≡ times_declared k flat.items + gone k + below k (length next.signals)

-- the design stays as it is
stays : (gone : ℕ → ℕ) (flat : Flat) (tasks : List Task) → FlatStands flat → AllTasks (length flat.signals) (length flat.places) tasks → ((k : ℕ) → times_left k tasks ≡ gone k) → Moves gone flat tasks flat
stays gone flat tasks h all none = record {
  grows = grows_self flat.signals;
  wider = omega arith;
  stands = h;
  tasks_stand = all;
  kept = ([], sym (append-nil flat.items));
  first = λ p e. e;
  once = λ k. let z = none k in omega (arith, z);
}

-- items are listed
lists : (gone : ℕ → ℕ) (flat : Flat) (tasks : List Task) (items : List FlatItem) → FlatStands flat → AllStand (length flat.signals) (length flat.places) items → AllTasks (length flat.signals) (length flat.places) tasks
    → ((k : ℕ) → times_declared k items + times_left k tasks ≡ gone k) → Moves gone flat tasks (add_all flat items)
lists gone flat tasks items h stand all count = record {
  grows = grows_self flat.signals;
  wider = omega arith;
  stands = record { sized = h.sized; places = h.places; items = items_more (length flat.signals) (length flat.places) flat.items items h.items stand };
  tasks_stand = all;
  kept = (items, refl);
  first = λ p e. e;
  once = λ k.
      let e = declared_more k flat.items items in
      let z = count k in
      omega (arith, e, z);
}

-- Steps.

assigned_stand : (n m k : ℕ) (xs : List Assignment) → k < m → AreListed n m (assigned_items k xs)
assigned_stand n m k [] less = tt
assigned_stand n m k (x ∷ xs) less = ((less, λ j. refl), assigned_stand n m k xs less)

plain_stand : (n m k : ℕ) (x : PlainItem) → k < m → AreListed n m (plain_items k x)
plain_stand n m k (p.ContinuousAssign at None assignments) less = assigned_stand n m k assignments less
plain_stand n m k (p.ContinuousAssign at (Some delay) assignments) less = ((tt, λ j. refl), tt)
plain_stand n m k (p.Process process) less = ((less, λ j. refl), tt)
plain_stand n m k (p.PortDeclaration x) less = tt
plain_stand n m k (p.DataDeclaration x) less = tt
plain_stand n m k (p.GenvarDeclaration at names) less = tt
plain_stand n m k (p.ParameterDeclaration x) less = tt
plain_stand n m k (p.ModuleInstantiation name values instances) less = tt

-- parts that stand, and declare nothing
abbrev pub AreQuiet : ℕ → ℕ → List Task → Type 0
AreQuiet n m xs = AllTasks n m xs × ((k : ℕ) → times_left k xs ≡ 0)

pub step_moves : (k : ℕ) (x : Step) (flat : Flat) → FlatStands flat → (k < length flat.places) × StepStands (length flat.signals) x → Moves (λ j. listed j x) flat (step_tasks k x) (add_all flat (step_items k x))
step_moves k (s.Declares n) flat h there = lists (λ j. listed j (s.Declares n)) flat [] (f.Declares n ∷ []) h (there.1, tt) tt (λ j. omega arith)
step_moves k (s.Refuses x) flat h there = lists (λ j. 0) flat [] (f.Refuses (err.Declaration x) ∷ []) h (tt, tt) tt (λ j. omega arith)
step_moves k (s.RefusesGiven x) flat h there = lists (λ j. 0) flat [] [] h tt tt (λ j. omega arith)
step_moves k (s.Starts n value) flat h there = lists (λ j. 0) flat [] (f.Starts n k value ∷ []) h ((there.1, there.0), tt) tt (λ j. omega arith)
step_moves k (s.Drives name value) flat h there = lists (λ j. 0) flat [] (f.Drives k name value ∷ []) h (there.0, tt) tt (λ j. omega arith)
step_moves k (s.Lists x) flat h there =
    let n = length flat.signals in
    let m = length flat.places in
    let items = plain_stand n m k x there.0 in
    lists (λ j. 0) flat [] (plain_items k x) h (listed_stand n m (plain_items k x) items) tt (λ j. let a = listed_none n m j (plain_items k x) items in omega (arith, a))
step_moves k (s.Places x) flat h there = lists (λ j. 0) flat (t.Instance k x ∷ []) [] h tt (there.0, tt) (λ j. omega arith)
step_moves k (s.Generates n item taken) flat h there = lists (λ j. 0) flat (t.Generates k n item taken ∷ []) [] h tt (there.0, tt) (λ j. omega arith)

pub refusal_moves : (error : ItemError) (flat : Flat) → FlatStands flat → Moves (λ j. 0) flat [] (add_all flat (f.Refuses error ∷ []))
refusal_moves error flat h = lists (λ j. 0) flat [] (f.Refuses error ∷ []) h (tt, tt) tt (λ j. omega arith)

-- Parts that are replaced by other parts alone.

pub one_moves : (x : Task) (flat : Flat) → FlatStands flat → TaskStands (length flat.signals) (length flat.places) x → ((k : ℕ) → left k x ≡ 0) → Moves (λ j. 0) flat (x ∷ []) flat
one_moves x flat h there none = stays (λ j. 0) flat (x ∷ []) h (there, tt) (λ k. let z = none k in omega (arith, z))

pub none_moves : (flat : Flat) → FlatStands flat → Moves (λ j. 0) flat [] flat
none_moves flat h = stays (λ j. 0) flat [] h tt (λ k. refl)

-- a label that is told
pub taken_quiet : (n m : ℕ) (taken : Option Identifier) → AreQuiet n m (taken_tasks taken)
taken_quiet n m None = (tt, λ j. refl)
taken_quiet n m (Some label) = ((tt, tt), λ j. omega arith)

pub taken_moves : (taken : Option Identifier) (flat : Flat) → FlatStands flat → Moves (λ j. 0) flat (taken_tasks taken) flat
taken_moves taken flat h = let q = taken_quiet (length flat.signals) (length flat.places) taken in stays (λ j. 0) flat (taken_tasks taken) h q.0 q.1

-- more parts come ahead
pub ahead_moves : (flat next : Flat) (xs ys : List Task) → AreQuiet (length next.signals) (length next.places) xs → Moves (λ j. 0) flat ys next → Moves (λ j. 0) flat (xs ++ ys) next
ahead_moves flat next xs ys q h = record {
  grows = h.grows;
  wider = h.wider;
  stands = h.stands;
  tasks_stand = tasks_more (length next.signals) (length next.places) xs ys q.0 h.tasks_stand;
  kept = h.kept;
  first = h.first;
  once = λ k.
      let x = left_more k xs ys in
      let y = q.1 k in
      let z = h.once k in
      omega (arith, x, y, z);
}

arm_moves : (k n : ℕ) (item : Item) (taken : Option Identifier) (flat : Flat) → FlatStands flat → k < length flat.places → Moves (λ j. 0) flat (t.Arm k n item taken ∷ []) flat
arm_moves k n item taken flat h less = one_moves (t.Arm k n item taken) flat h less (λ j. refl)

other_moves : (k n : ℕ) (first : Item) (second : Option Item) (taken : Option Identifier) (flat : Flat) → FlatStands flat → k < length flat.places → Moves (λ j. 0) flat (other_tasks k n first second taken) flat
other_moves k n first None taken flat h less = taken_moves taken flat h
other_moves k n first (Some second) taken flat h less =
    either (λ (xs : List Task). Moves (λ j. 0) flat xs flat) (is_passed first taken) (taken_tasks taken ++ t.Arm k n second None ∷ []) (t.Arm k n second taken ∷ [])
    (ahead_moves flat flat (taken_tasks taken) (t.Arm k n second None ∷ []) (taken_quiet (length flat.signals) (length flat.places) taken) (arm_moves k n second None flat h less)) (arm_moves k n second taken flat h less)

pub chosen_moves : (k n : ℕ) (value : Result ℕ ItemError) (first : Item) (second : Option Item) (taken : Option Identifier) (flat : Flat) → FlatStands flat → k < length flat.places → Moves (λ j. 0) flat (chosen_tasks k n value first second taken) flat
chosen_moves k n (Err x) first second taken flat h less = one_moves (t.Refuses x) flat h tt (λ j. refl)
chosen_moves k n (Ok value) first second taken flat h less =
    either (λ (xs : List Task). Moves (λ j. 0) flat xs flat) (value == 0) (other_tasks k n first second taken) (t.Arm k n first taken ∷ []) (other_moves k n first second taken flat h less) (arm_moves k n first taken flat h less)
