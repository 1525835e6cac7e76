-- Scopes that are entered: instances, blocks, turns and the top.
use Rattle.flat_laws.proofs.Common.{◌≡◌, ℕ, ◌+◌, ◌<◌, ◌≤◌, true, List, [], ◌∷◌, ◌++◌, length, Option, None, Some, Result, Ok, Err, refl, sym, ap, ◌∙◌, subst, arith, slice_get, bytes_eq, length_push}
use Rattle.flat_laws.proofs.Common.{append-nil, none-some, Item, Module, Names, Placing, Step, Signal, What, Opened, unopened, ItemError, FlatItem, Task, head_of, inner_prefix, no_names, gift_of}
use Rattle.flat_laws.proofs.Common.{parameters_of, ports_of, Place, AreSized, NamesSignal, OwnsSignal, PlaceStands, AllStand, times_declared}
use Rattle.vlog_meaning.specs.declared.scope.Decl.TheVariants.{Constant}
use Rattle.flat_scopes.specs.declared.signal.What.TheVariants as w
use Rattle.flat_scopes.specs.Words.{word}
use Rattle.flat_items.specs.declared.task.Task.TheVariants as t
use Rattle.flat_items.specs.declared.task.Turn.{Turn}
use Rattle.flat_items.specs.Flattened.{Flat, block_head, block_items, add_all, entered, kept_names, tasks_of, integer_in, taken_tasks, OpensBlock, turn_start}
use Rattle.flat_items.specs.Replacing.{PlacesInstance, TurnsOnce, turn_name, next_turn, stepped, step_fault}
use Rattle.flat_laws.proofs.Lists.{either, holds_more, each_more, below}
use Rattle.flat_laws.proofs.Growing.{Grows, AllSteps, listed, times_listed, grows_self, named_on, owned_on}
use Rattle.flat_laws.proofs.Opening.{Keeps, kept_name}
use Rattle.flat_laws.proofs.Opened.{kept_items, kept_module}
use Rattle.flat_laws.proofs.Items.{items_on, items_more, declared_more, AreListed, listed_stand, listed_none, instance_listed}
use Rattle.flat_laws.proofs.Parts.{AllTasks, tasks_more, left_more, steps_stand, steps_left, FlatStands, Moves, AreQuiet, taken_quiet, ahead_moves}

-- what was opened behind these signals
record Added (signals : List Signal) (child : Opened) : Type 0 where
  pub grows : Grows signals child.signals
  pub sized : AreSized child.signals
  pub names : (name : List ℕ) → NamesSignal child.signals (child.names name)
  pub own : (name : List ℕ) → OwnsSignal (length child.signals) (child.own name)
  pub steps : AllSteps (length child.signals) child.steps
  pub once : (k : ℕ) → times_listed k child.steps + below k (length signals) ≡ below k (length child.signals)

added : (signals : List Signal) (start child : Opened) → start.signals ≡ signals → start.steps ≡ [] → Keeps start child → Added signals child
added signals start child same none h = record {
  grows = subst (λ (xs : List Signal). Grows xs child.signals) same h.grows;
  sized = h.sized;
  names = h.names;
  own = h.own;
  steps = h.steps;
  once = λ k.
      let a : times_listed k start.steps ≡ 0 = ap (times_listed k) none in
      let b : below k (length start.signals) ≡ below k (length signals) = ap (λ (xs : List Signal). below k (length xs)) same in
      let c = h.once k in
      omega (arith, a, b, c);
}

-- a scope that is not opened yet stands where its names do
pub unopened_kept : (names : Names) (signals : List Signal) → AreSized signals → ((name : List ℕ) → NamesSignal signals (names name)) → Keeps (unopened names signals) (unopened names signals)
unopened_kept names signals sized named = record {
  grows = grows_self signals;
  sized = sized;
  names = named;
  own = λ name. tt;
  steps = tt;
  once = λ k. refl;
  owned = λ name x e. e;
  refused = λ some. some;
}

place_on : (old new : List Signal) (p : Place) → Grows old new → PlaceStands old p → PlaceStands new p
place_on old new p g h = record { names = λ name. named_on old new (p.names name) g (h.names name); own = λ name. owned_on (length old) (length new) (p.own name) g.longer (h.own name) }

-- what a scope keeps stands where its names do
kept_named : (signals : List Signal) (steps : List Step) (names : Names) → ((name : List ℕ) → NamesSignal signals (names name)) → (name : List ℕ) → NamesSignal signals (kept_names steps names name)
kept_named signals [] names h name = tt
kept_named signals (s ∷ more) names h name = h name

entered_stands : (flat : Flat) (prefix : List ℕ) (around : Option ℕ) (within : List ℕ) (child : Opened) → ((i : ℕ) (p : Place) → slice_get flat.places i ≡ Some p → PlaceStands flat.signals p) → Added flat.signals child
    → AllStand (length child.signals) (length flat.places + 1) flat.items → FlatStands (entered flat prefix around within child)
entered_stands flat prefix around within child places a items =
    let p : Place = record { prefix = prefix; names = kept_names child.steps child.names; own = child.own; around = around; within = within } in
    let long : length (flat.places ++ p ∷ []) ≡ length flat.places + 1 = length_push flat.places p in
    record {
      sized = a.sized;
      places = each_more (PlaceStands child.signals) p flat.places (λ i q e. place_on flat.signals child.signals q a.grows (places i q e)) (record { names = kept_named child.signals child.steps child.names a.names; own = a.own });
      items = subst (λ (m : ℕ). AllStand (length child.signals) m flat.items) (sym long) items;
    }

-- a scope that was opened is entered, and items were listed before
enters : (flat : Flat) (items : List FlatItem) (mid : Flat) (prefix : List ℕ) (around : Option ℕ) (within : List ℕ) (child : Opened) → FlatStands flat → Added flat.signals child
    → mid.signals ≡ flat.signals → mid.places ≡ flat.places → mid.items ≡ flat.items ++ items → AreListed (length child.signals) (length flat.places + 1) items
    → Moves (λ j. 0) flat (tasks_of (length flat.places) child.steps) (entered mid prefix around within child)
enters flat items mid prefix around within child h a signals places all listed =
    let n = length child.signals in
    let m = length flat.places in
    let p : Place = record { prefix = prefix; names = kept_names child.steps child.names; own = child.own; around = around; within = within } in
    let long : length (mid.places ++ p ∷ []) ≡ m + 1 = length_push mid.places p ∙ ap (λ (xs : List Place). length xs + 1) places in
    let longer : length flat.signals ≤ n = a.grows.longer in
    let wider : m ≤ m + 1 = omega arith in
    let inside : m < m + 1 = omega arith in
    let stand : AllStand n (m + 1) (flat.items ++ items) = items_more n (m + 1) flat.items items (items_on (length flat.signals) m n (m + 1) flat.items longer wider h.items) (listed_stand n (m + 1) items listed) in
    let mid_places : (i : ℕ) (q : Place) → slice_get mid.places i ≡ Some q → PlaceStands mid.signals q = λ i q e. subst (λ (xs : List Signal). PlaceStands xs q) (sym signals) (h.places i q (subst (λ (xs : List Place). slice_get xs i ≡ Some q) places e)) in
    let mid_added : Added mid.signals child = subst (λ (xs : List Signal). Added xs child) (sym signals) a in
    let mid_items : AllStand n (length mid.places + 1) mid.items = subst (λ (xs : List Place). AllStand n (length xs + 1) mid.items) (sym places) (subst (AllStand n (m + 1)) (sym all) stand) in
    record {
      grows = a.grows;
      wider = omega (arith, long);
      stands = entered_stands mid prefix around within child mid_places mid_added mid_items;
      tasks_stand = subst (λ (j : ℕ). AllTasks n j (tasks_of m child.steps)) (sym long) (steps_stand n (m + 1) m child.steps inside a.steps);
      kept = (items, all);
      first = λ q e. holds_more (λ (o : Option Place). o ≡ Some q) (none-some q) mid.places (p ∷ []) 0 (subst (λ (xs : List Place). slice_get xs 0 ≡ Some q) (sym places) e);
      once = λ k.
          let x : times_declared k mid.items ≡ times_declared k flat.items + times_declared k items = ap (times_declared k) all ∙ declared_more k flat.items items in
          let y = listed_none n (m + 1) k items listed in
          let z = steps_left k m child.steps in
          let c = a.once k in
          omega (arith, x, y, z, c);
    }

-- Instances.

pub instance_moves : (modules : List Module) (n k : ℕ) (place : Place) (x : Placing) (flat next : Flat) (tasks : List Task) → PlacesInstance modules n k place x flat tasks next
    → FlatStands flat → k < length flat.places → Moves (λ j. 0) flat tasks next
instance_moves modules n k place x flat next tasks d h less =
    let m = length flat.places in
    let start : Opened = unopened no_names flat.signals in
    let prefix = inner_prefix place.prefix x.instance.name.name in
    let kept : Keeps start d.child = kept_module start start d.child (head_of prefix d.m x.values) place.names d.m d.opens.opens (unopened_kept no_names flat.signals h.sized (λ name. tt)) in
    let outside : k < m + 1 = omega (arith, less) in
    let inside : m < m + 1 = omega arith in
    let listed : AreListed (length d.child.signals) (m + 1) d.items =
    subst (AreListed (length d.child.signals) (m + 1)) (sym d.opens.lists) (instance_listed (m + 1) k m outside inside (gift_of (parameters_of d.m) x.values).refused (ports_of d.m.ports) x d.child) in
    let moves = enters flat d.items (add_all flat d.items) prefix None (n ∷ place.within) d.child h (added flat.signals start d.child refl refl kept) refl refl refl listed in
    subst (λ (xs : List Task). Moves (λ j. 0) flat xs next) (sym d.listed) (subst (Moves (λ j. 0) flat (tasks_of m d.child.steps)) (sym d.enters) moves)

-- Blocks.

-- nothing is listed before a block is entered
block_enters : (flat : Flat) (prefix : List ℕ) (around : Option ℕ) (within : List ℕ) (child : Opened) → FlatStands flat → Added flat.signals child → Moves (λ j. 0) flat (tasks_of (length flat.places) child.steps) (entered flat prefix around within child)
block_enters flat prefix around within child h a = enters flat [] flat prefix around within child h a refl refl (sym (append-nil flat.items)) tt

pub block_moves : (k : ℕ) (place : Place) (name : List ℕ) (start : Opened) (block : Item) (flat next : Flat) (tasks : List Task) → OpensBlock k place name start block flat tasks next
    → FlatStands flat → start.signals ≡ flat.signals → start.steps ≡ [] → Keeps start start → Moves (λ j. 0) flat tasks next
block_moves k place name start block flat next tasks d h signals none stands =
    let prefix = inner_prefix place.prefix name in
    let kept : Keeps start d.child = kept_items start (block_head prefix) no_names start d.child (block_items block) d.opens stands in
    let moves = block_enters flat prefix (Some k) place.within d.child h (added flat.signals start d.child signals none kept) in
    subst (λ (xs : List Task). Moves (λ j. 0) flat xs next) (sym d.listed) (subst (Moves (λ j. 0) flat (tasks_of (length flat.places) d.child.steps)) (sym d.enters) moves)

-- what a scope names, its blocks name too
pub inner_kept : (place : Place) (flat : Flat) → FlatStands flat → PlaceStands flat.signals place → Keeps (unopened place.names flat.signals) (unopened place.names flat.signals)
inner_kept place flat h p = unopened_kept place.names flat.signals h.sized p.names

-- Turns.

pub turn_kept : (place : Place) (flat : Flat) (x : Turn) → FlatStands flat → PlaceStands flat.signals place → Keeps (turn_start place flat.signals x) (turn_start place flat.signals x)
turn_kept place flat x h p =
    let start : Opened = unopened place.names flat.signals in
    let kept : Keeps start (turn_start place flat.signals x) = kept_name start start x.head.name.name w.Constant (Some (Constant (word 32 x.value) 0 true)) (inner_kept place flat h p) refl tt tt in
    record { grows = grows_self flat.signals; sized = kept.sized; names = kept.names; own = kept.own; steps = tt; once = λ k. refl; owned = λ name what e. e; refused = λ some. some }

stepped_quiet : (n m k : ℕ) (x : Turn) (value : Result ℕ ItemError) → k < m → AreQuiet n m (stepped k x value ∷ [])
stepped_quiet n m k x (Err error) less = ((tt, tt), λ j. omega arith)
stepped_quiet n m k x (Ok value) less = ((less, tt), λ j. omega arith)

next_quiet : (n m k : ℕ) (x : Turn) (what : Option What) (value : Result ℕ ItemError) → k < m → AreQuiet n m (next_turn k x what value ∷ [])
next_quiet n m k x what value less =
    either (λ (y : Task). AreQuiet n m (y ∷ [])) (bytes_eq x.head.step_name.name x.head.name.name) (stepped k x value) (t.Refuses (step_fault what x.head.step_name.span))
    (stepped_quiet n m k x value less) ((tt, tt), λ j. omega arith)

-- more parts come behind
behind_moves : (flat next : Flat) (xs ys : List Task) → Moves (λ j. 0) flat xs next → AreQuiet (length next.signals) (length next.places) ys → Moves (λ j. 0) flat (xs ++ ys) next
behind_moves flat next xs ys h q = record {
  grows = h.grows;
  wider = h.wider;
  stands = h.stands;
  tasks_stand = tasks_more (length next.signals) (length next.places) xs ys h.tasks_stand q.0;
  kept = h.kept;
  first = h.first;
  once = λ k.
      let x = left_more k xs ys in
      let y = q.1 k in
      let z = h.once k in
      omega (arith, x, y, z);
}

pub turn_moves : (k : ℕ) (place : Place) (x : Turn) (flat next : Flat) (tasks : List Task) → TurnsOnce k place x (turn_start place flat.signals x) flat tasks next
    → FlatStands flat → PlaceStands flat.signals place → k < length flat.places → Moves (λ j. 0) flat tasks next
turn_moves k place x flat next tasks d h p less =
    let start = turn_start place flat.signals x in
    let block = block_moves k place (turn_name x.name x.value) start x.body flat next d.inner d.opens h refl refl (turn_kept place flat x h p) in
    let wider = block.wider in
    let inside : k < length next.places = omega (arith, less, wider) in
    let after = next_turn k x d.what (integer_in start.names x.head.step) in
    let moves = ahead_moves flat next (taken_tasks x.taken) (d.inner ++ after ∷ []) (taken_quiet (length next.signals) (length next.places) x.taken) (behind_moves flat next d.inner (after ∷ []) block (next_quiet (length next.signals) (length next.places) k x d.what (integer_in start.names x.head.step) inside)) in
    subst (λ (xs : List Task). Moves (λ j. 0) flat xs next) (sym d.all) moves

-- The top.

pub start_moves : (items : List FlatItem) (prefix within : List ℕ) (child : Opened) → Keeps (unopened no_names []) child → AreListed (length child.signals) 1 items
    → Moves (λ j. 0) (record { signals = []; places = []; items = [] }) (tasks_of 0 child.steps) (entered (record { signals = []; places = []; items = items }) prefix None within child)
start_moves items prefix within child kept listed =
    let nothing : Flat = record { signals = []; places = []; items = [] } in
    let none : FlatStands nothing = record { sized = tt; places = λ i p e. absurd (none-some p e); items = tt } in
    enters nothing items (record { signals = []; places = []; items = items }) prefix None within child none (added [] (unopened no_names []) child refl refl kept) refl refl refl listed
