-- What instances, blocks and turns are replaced by is one.
use Rattle.flat_once.proofs.Common.{◌≡◌, ℕ, List, [], ◌∷◌, ◌++◌, length, Option, None, Some, sym, ap, ◌∙◌, subst, slice_get, Item, Module, Placing, What, Opened, unopened, Place, Task, Turn}
use Rattle.flat_scopes.specs.declared.signal.Signal.{Signal}
use Rattle.flat_instances.specs.declared.item.FlatItem.{FlatItem}
use Rattle.flat_instances.specs.Gifts.{parameters_of, gift_of}
use Rattle.flat_instances.specs.Instances.{inner_prefix, no_names, head_of, listed_of, OpensInstance}
use Rattle.flat_scopes.specs.Wires.{ports_of}
use Rattle.flat_items.specs.Flattened.{Flat, add_all, block_head, block_items, entered, integer_in, taken_tasks, tasks_of, OpensBlock}
use Rattle.flat_items.specs.Replacing.{PlacesInstance, TurnsOnce, next_turn, turn_name}
use Rattle.flat_once.proofs.Names.{sees_once}
use Rattle.flat_once.proofs.Scopes.{module_once, opens_once}

-- a part is replaced by the same in both cases
abbrev pub AreSame : (tasks others : List Task) → (next after : Flat) → Type 0
AreSame tasks others next after = (tasks ≡ others) × (next ≡ after)

-- what a list has at a number is one
pub one_there : {A : Type 0} (xs : List A) (k : ℕ) (x y : A) → slice_get xs k ≡ Some x → slice_get xs k ≡ Some y → x ≡ y
one_there xs k x y a b = cc

-- Blocks.

pub block_once : (k : ℕ) (place : Place) (name : List ℕ) (start : Opened) (block : Item) (flat : Flat) (tasks others : List Task) (next after : Flat)
    → OpensBlock k place name start block flat tasks next → OpensBlock k place name start block flat others after → AreSame tasks others next after
block_once k place name start block flat tasks others next after d e =
    let prefix = inner_prefix place.prefix name in
    let same : d.child ≡ e.child = opens_once (block_head prefix) no_names start (block_items block) d.child e.child d.opens e.opens in (
      d.listed ∙ ap (λ (c : Opened). tasks_of (length flat.places) c.steps) same ∙ sym e.listed,
      d.enters ∙ ap (λ (c : Opened). entered flat prefix (Some k) place.within c) same ∙ sym e.enters,
    )

-- Instances.

instance_once : (place : Place) (outside inside : ℕ) (m : Module) (x : Placing) (signals : List Signal) (child other : Opened) (items others : List FlatItem)
    → OpensInstance place outside inside m x signals child items → OpensInstance place outside inside m x signals other others → (child ≡ other) × (items ≡ others)
instance_once place outside inside m x signals child other items others d e =
    let same : child ≡ other = module_once (head_of (inner_prefix place.prefix x.instance.name.name) m x.values) place.names m (unopened no_names signals) child other d.opens e.opens in
    let refused = (gift_of (parameters_of m) x.values).refused in
    (same, d.lists ∙ ap (listed_of outside inside refused (ports_of m.ports) x) same ∙ sym e.lists)

pub places_once : (modules : List Module) (n k : ℕ) (place : Place) (x : Placing) (flat : Flat) (tasks others : List Task) (next after : Flat)
    → PlacesInstance modules n k place x flat tasks next → PlacesInstance modules n k place x flat others after → AreSame tasks others next after
places_once modules n k place x flat tasks others next after d e =
    let m : e.m ≡ d.m = one_there modules n e.m d.m e.numbered d.numbered in
    let there : OpensInstance place k (length flat.places) d.m x flat.signals e.child e.items = subst (λ (y : Module). OpensInstance place k (length flat.places) y x flat.signals e.child e.items) m e.opens in
    let same = instance_once place k (length flat.places) d.m x flat.signals d.child e.child d.items e.items d.opens there in
    let prefix = inner_prefix place.prefix x.instance.name.name in (
      d.listed ∙ ap (λ (c : Opened). tasks_of (length flat.places) c.steps) same.0 ∙ sym e.listed,
      d.enters ∙ ap (λ (c : Opened). entered (add_all flat d.items) prefix None (n ∷ place.within) c) same.0
          ∙ ap (λ (xs : List FlatItem). entered (add_all flat xs) prefix None (n ∷ place.within) e.child) same.1 ∙ sym e.enters,
    )

-- Turns.

pub turns_once : (k : ℕ) (place : Place) (x : Turn) (start : Opened) (flat : Flat) (tasks others : List Task) (next after : Flat)
    → TurnsOnce k place x start flat tasks next → TurnsOnce k place x start flat others after → AreSame tasks others next after
turns_once k place x start flat tasks others next after d e =
    let what : d.what ≡ e.what = sees_once flat.places x.head.step_name.name k d.what e.what d.sees e.sees in
    let block = block_once k place (turn_name x.name x.value) start x.body flat d.inner e.inner next after d.opens e.opens in
    let value = integer_in start.names x.head.step in
    let ahead = taken_tasks x.taken in
    (d.all ∙ ap (λ (ts : List Task). ahead ++ (ts ++ next_turn k x d.what value ∷ [])) block.0 ∙ ap (λ (w : Option What). ahead ++ (e.inner ++ next_turn k x w value ∷ [])) what ∙ sym e.all, block.1)
