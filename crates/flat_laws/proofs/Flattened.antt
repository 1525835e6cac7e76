-- Flattened designs are sound.
use Rattle.flat_laws.proofs.Common.{◌≡◌, inl, inr, ℕ, ◌+◌, ◌≤◌, List, [], ◌∷◌, ◌++◌, length, None, Some, refl, subst, arith, slice_get, Identifier, Module, Step, Signal, Opened, unopened, FlatItem}
use Rattle.flat_laws.proofs.Common.{Task, no_names, Place, ports_of, AreAccepted, ArePorts, times_declared}
use Rattle.vlog_syntax.specs.declared.item.Item.TheVariants as i
use Rattle.flat_scopes.specs.declared.opening.Step.TheVariants as s
use Rattle.flat_scopes.specs.Owns.{Own}
use Rattle.flat_instances.specs.declared.item.FlatItem.TheVariants as f
use Rattle.flat_instances.specs.declared.error.ItemError.TheVariants as err
use Rattle.flat_items.specs.declared.task.Task.TheVariants as t
use Rattle.flat_items.specs.Flattened.{Flat, entered, kept_names, tasks_of, step_items, condition_in, taken_tasks, module_at}
use Rattle.flat_items.specs.Replacing.{Replaces, Flattens, replaces, flattened, step, refused, not_placed, placed, condition, arm_null, arm_condition, arm_full, arm_block, bad_genvar, bad_start, loop}
use Rattle.flat_items.specs.Replacing.{turn_ended, bad_turn, turn, no_construct, first_turn, is_number, repeated, top_head, FlattensModule}
use Rattle.flat_laws.specs.Laws.{FlattenedAreSound, TopHasPorts}
use Rattle.flat_laws.proofs.Lists.{either, below, below_none}
use Rattle.flat_laws.proofs.Growing.{Grows, SomeRefused, IsRefusal, grows_self, grows_on}
use Rattle.flat_laws.proofs.Opening.{Keeps}
use Rattle.flat_laws.proofs.Opened.{kept_module}
use Rattle.flat_laws.proofs.Items.{AreListed}
use Rattle.flat_laws.proofs.Ports.{port_on, module_ports}
use Rattle.flat_laws.proofs.Parts.{AllTasks, TaskStands, FlatStands, Moves, left, times_left, left_more, tasks_on, tasks_more, step_moves, refusal_moves, one_moves, none_moves, taken_quiet}
use Rattle.flat_laws.proofs.Parts.{taken_moves, ahead_moves, chosen_moves}
use Rattle.flat_laws.proofs.Entering.{instance_moves, block_moves, inner_kept, turn_moves, unopened_kept, start_moves}

moved : (modules : List Module) (task : Task) (flat : Flat) (tasks : List Task) (next : Flat) → Replaces modules task flat tasks next → FlatStands flat → TaskStands (length flat.signals) (length flat.places) task → Moves (λ k. left k task) flat tasks next
moved modules task flat tasks next (step k x old) h there = step_moves k x old h there
moved modules task flat tasks next (refused error old) h there = refusal_moves error old h
moved modules task flat tasks next (not_placed k x old place error got found) h there = one_moves (t.Refuses error) old h tt (λ j. refl)
moved modules task flat tasks next (placed k x old new place n xs got found d) h there = instance_moves modules n k place x old new xs d h there
moved modules task flat tasks next (condition k n at c first second taken old place got) h there = chosen_moves k n (condition_in place.names c) first second taken old h there
moved modules task flat tasks next (arm_null k n at taken old) h there = taken_moves taken old h
moved modules task flat tasks next (arm_condition k n at c first second taken old) h there = one_moves (t.Generates k n (i.IfGenerate at c first second) taken) old h there (λ j. refl)
moved modules task flat tasks next (arm_full k n item taken old form full) h there = one_moves (t.Refuses err.Scopes) old h tt (λ j. refl)
moved modules task flat tasks next (arm_block k n item taken old new place name xs form room got named d) h there =
    ahead_moves old new (taken_tasks taken) xs (taken_quiet (length new.signals) (length new.places) taken) (block_moves k place name (unopened place.names old.signals) item old new xs d h refl refl (inner_kept place old h (h.places k place got)))
moved modules task flat tasks next (bad_genvar k n head body taken old what error sees fault) h there = one_moves (t.Refuses error) old h tt (λ j. refl)
moved modules task flat tasks next (bad_start k n head body taken old what place error sees fault got value) h there = one_moves (t.Refuses error) old h tt (λ j. refl)
moved modules task flat tasks next (loop k n head body taken old what place value name sees fault got start named) h there = one_moves (t.Turn k (first_turn name head body value taken)) old h there (λ j. refl)
moved modules task flat tasks next (turn_ended k x old place got ends) h there = taken_moves x.taken old h
moved modules task flat tasks next (bad_turn k x old place error got bad) h there = one_moves (t.Refuses error) old h tt (λ j. refl)
moved modules task flat tasks next (turn k x old new place xs got goes d) h there = turn_moves k place x old new xs d h (h.places k place got) there
moved modules task flat tasks next (no_construct k n item taken old form) h there = none_moves old h

-- What holds from part to part: the design so far stands, so do the parts that are left, and each signal is declared once.
record Holds (tasks : List Task) (flat : Flat) : Type 0 where
  pub stands : FlatStands flat
  pub top : 1 ≤ length flat.places
  pub tasks_stand : AllTasks (length flat.signals) (length flat.places) tasks
  pub once : (k : ℕ) → times_declared k flat.items + times_left k tasks ≡ below k (length flat.signals)

next_holds : (task : Task) (tasks more : List Task) (flat next : Flat) → Moves (λ k. left k task) flat tasks next → Holds (task ∷ more) flat → Holds (tasks ++ more) next
next_holds task tasks more flat next d h =
    let longer : length flat.signals ≤ length next.signals = d.grows.longer in
    let wider = d.wider in
    let top = h.top in
    record {
      stands = d.stands;
      top = omega (arith, wider, top);
      tasks_stand = tasks_more (length next.signals) (length next.places) tasks more d.tasks_stand (tasks_on (length flat.signals) (length flat.places) (length next.signals) (length next.places) more longer wider h.tasks_stand.1);
      once = λ k.
          let x = left_more k tasks more in
          let y = d.once k in
          let z : times_declared k flat.items + (left k task + times_left k more) ≡ below k (length flat.signals) = h.once k in
          omega (arith, x, y, z);
    }

all_hold : (modules : List Module) (tasks : List Task) (flat last : Flat) → Flattens modules tasks flat last → Holds tasks flat → Holds [] last
all_hold modules tasks flat last (flattened old) h = h
all_hold modules tasks flat last (replaces task parts more old next end r d) h =
    all_hold modules (parts ++ more) next end d (next_holds task parts more old next (moved modules task old parts next r h.stands h.tasks_stand.0) h)

-- the modules that are declared twice
repeated_listed : (modules : List Module) (n m k : ℕ) (xs : List Module) → AreListed n m (repeated modules k xs)
repeated_listed modules n m k [] = tt
repeated_listed modules n m k (x ∷ more) =
    let later = repeated_listed modules n m (k + 1) more in
    either (AreListed n m) (is_number (module_at modules x.name) k) (repeated modules (k + 1) more) (f.Refuses (err.Twice x.span) ∷ repeated modules (k + 1) more) later ((tt, λ j. refl), later)

-- what stands where the top is opened
top_stands : (modules : List Module) (number : ℕ) (flat : Flat) (d : FlattensModule modules number flat) → Holds (tasks_of 0 d.child.steps) (entered (record { signals = []; places = []; items = repeated modules 0 modules }) [] None (number ∷ []) d.child)
top_stands modules number flat d =
    let start : Opened = unopened no_names [] in
    let kept : Keeps start d.child = kept_module start start d.child (top_head d.m) no_names d.m d.opens (unopened_kept no_names [] tt (λ name. tt)) in
    let items = repeated modules 0 modules in
    let first = entered (record { signals = []; places = []; items = items }) [] None (number ∷ []) d.child in
    let moves = start_moves items [] (number ∷ []) d.child kept (repeated_listed modules (length d.child.signals) 1 0 modules) in
    record {
      stands = moves.stands;
      top = omega arith;
      tasks_stand = moves.tasks_stand;
      once = λ k.
          let x : times_declared k first.items + times_left k (tasks_of 0 d.child.steps) + below k 0 ≡ 0 + 0 + below k (length first.signals) = moves.once k in
          let y = below_none k in
          omega (arith, x, y);
    }

pub flattened_sound : FlattenedAreSound
flattened_sound modules top flat h =
    let d = h.design in
    let first = entered (record { signals = []; places = []; items = repeated modules 0 modules }) [] None (h.number ∷ []) d.child in
    let all = all_hold modules (tasks_of 0 d.child.steps) first flat d.flattens (top_stands modules h.number flat d) in
    record {
      sized = all.stands.sized;
      top = all.top;
      places = all.stands.places;
      items = all.stands.items;
      once = λ k. let x : times_declared k flat.items + 0 ≡ below k (length flat.signals) = all.once k in omega (arith, x);
    }

-- The ports of the top.

accepted_front : (xs ys : List FlatItem) → AreAccepted (xs ++ ys) → AreAccepted xs
accepted_front [] ys h = tt
accepted_front (x ∷ xs) ys h = (h.0, accepted_front xs ys h.1)

accepted_back : (xs ys : List FlatItem) → AreAccepted (xs ++ ys) → AreAccepted ys
accepted_back [] ys h = h
accepted_back (x ∷ xs) ys h = accepted_back xs ys h.1

abbrev StepAccepted : Step → Type 0
StepAccepted (s.Refuses x) = ⊥
StepAccepted other = Unit {0}

abbrev TaskAccepted : Task → Type 0
TaskAccepted (t.Step k x) = StepAccepted x
TaskAccepted other = Unit {0}

abbrev AllAccepted : List Task → Type 0
AllAccepted [] = Unit {0}
AllAccepted (x ∷ more) = TaskAccepted x × AllAccepted more

tasks_back : (xs ys : List Task) → AllAccepted (xs ++ ys) → AllAccepted ys
tasks_back [] ys h = h
tasks_back (x ∷ xs) ys h = tasks_back xs ys h.1

-- a refusal that a step lists is an item
step_accepted : (k : ℕ) (x : Step) (items : List FlatItem) → AreAccepted (items ++ step_items k x) → StepAccepted x
step_accepted k (s.Refuses x) items h = (accepted_back items (f.Refuses (err.Declaration x) ∷ []) h).0
step_accepted k (s.Declares n) items h = tt
step_accepted k (s.RefusesGiven x) items h = tt
step_accepted k (s.Starts n value) items h = tt
step_accepted k (s.Drives name value) items h = tt
step_accepted k (s.Lists x) items h = tt
step_accepted k (s.Places x) items h = tt
step_accepted k (s.Generates n item taken) items h = tt

task_accepted : (modules : List Module) (task : Task) (flat : Flat) (tasks : List Task) (next : Flat) → Replaces modules task flat tasks next → AreAccepted next.items → TaskAccepted task
task_accepted modules task flat tasks next (step k x old) h = step_accepted k x old.items h
task_accepted modules task flat tasks next (refused error old) h = tt
task_accepted modules task flat tasks next (not_placed k x old place error got found) h = tt
task_accepted modules task flat tasks next (placed k x old new place n xs got found d) h = tt
task_accepted modules task flat tasks next (condition k n at c first second taken old place got) h = tt
task_accepted modules task flat tasks next (arm_null k n at taken old) h = tt
task_accepted modules task flat tasks next (arm_condition k n at c first second taken old) h = tt
task_accepted modules task flat tasks next (arm_full k n item taken old form full) h = tt
task_accepted modules task flat tasks next (arm_block k n item taken old new place name xs form room got named d) h = tt
task_accepted modules task flat tasks next (bad_genvar k n head body taken old what error sees fault) h = tt
task_accepted modules task flat tasks next (bad_start k n head body taken old what place error sees fault got value) h = tt
task_accepted modules task flat tasks next (loop k n head body taken old what place value name sees fault got start named) h = tt
task_accepted modules task flat tasks next (turn_ended k x old place got ends) h = tt
task_accepted modules task flat tasks next (bad_turn k x old place error got bad) h = tt
task_accepted modules task flat tasks next (turn k x old new place xs got goes d) h = tt
task_accepted modules task flat tasks next (no_construct k n item taken old form) h = tt

-- what is there in a design is there in the whole one
record Follows (tasks : List Task) (flat last : Flat) : Type 0 where
  pub grows : Grows flat.signals last.signals
  pub first : (p : Place) → slice_get flat.places 0 ≡ Some p → slice_get last.places 0 ≡ Some p
  pub accepted : AreAccepted last.items → AreAccepted flat.items × AllAccepted tasks

all_follow : (modules : List Module) (tasks : List Task) (flat last : Flat) → Flattens modules tasks flat last → Holds tasks flat → Follows tasks flat last
all_follow modules tasks flat last (flattened old) h = record { grows = grows_self old.signals; first = λ p e. e; accepted = λ a. (a, tt) }
all_follow modules tasks flat last (replaces task parts more old next end r d) h =
    let m = moved modules task old parts next r h.stands h.tasks_stand.0 in
    let later = all_follow modules (parts ++ more) next end d (next_holds task parts more old next m h) in
    record {
      grows = grows_on old.signals next.signals end.signals m.grows later.grows;
      first = λ p e. later.first p (m.first p e);
      accepted = λ a.
          let b = later.accepted a in
          (accepted_front old.items m.kept.0 (subst AreAccepted m.kept.1 b.0), (task_accepted modules task old parts next r b.0, tasks_back parts more b.1));
    }

clash : (x : Step) → StepAccepted x → IsRefusal x → ⊥
clash (s.Refuses x) h i = h
clash (s.Declares n) h i = i
clash (s.RefusesGiven x) h i = i
clash (s.Starts n value) h i = i
clash (s.Drives name value) h i = i
clash (s.Lists x) h i = i
clash (s.Places x) h i = i
clash (s.Generates n item taken) h i = i

none_refused : (k : ℕ) (xs : List Step) → AllAccepted (tasks_of k xs) → SomeRefused xs → ⊥
none_refused k [] h some = some
none_refused k (x ∷ xs) h (inl some) = clash x h.0 some
none_refused k (x ∷ xs) h (inr some) = none_refused k xs h.1 some

ports_on : (old new : List Signal) (own : Own) (names : List Identifier) → Grows old new → ArePorts old own names → ArePorts new own names
ports_on old new own [] g h = tt
ports_on old new own (n ∷ more) g h = (port_on old new (own n.name) g h.0, ports_on old new own more g h.1)

pub ports_of_tops : TopHasPorts
ports_of_tops modules top flat h accepted =
    let d = h.design in
    let child = d.child in
    let start : Opened = unopened no_names [] in
    let p : Place = record { prefix = []; names = kept_names child.steps child.names; own = child.own; around = None; within = h.number ∷ [] } in
    let first = entered (record { signals = []; places = []; items = repeated modules 0 modules }) [] None (h.number ∷ []) child in
    let follows : Follows (tasks_of 0 child.steps) first flat = all_follow modules (tasks_of 0 child.steps) first flat d.flattens (top_stands modules h.number flat d) in
    let clear : SomeRefused child.steps → ⊥ = none_refused 0 child.steps (follows.accepted accepted).1 in
    let ports : ArePorts child.signals child.own (ports_of d.m.ports) = module_ports start start child (top_head d.m) no_names d.m d.opens (unopened_kept no_names [] tt (λ name. tt)) clear in
    (p, follows.first p refl, ports_on child.signals flat.signals child.own (ports_of d.m.ports) follows.grows ports)
