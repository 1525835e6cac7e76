-- What stands of a builder from item to item, and what all items add.
use Rattle.elab_items.proofs.Common.{◌≡◌, ℕ, suc, ◌-◌, ◌<◌, ◌≤◌, Bool, List, [], ◌∷◌, ◌++◌, take, drop, get_or, length, Option, Some, None, refl, sym, ap, ◌∙◌, subst, arith, slice_index_or, slice_get}
use Rattle.elab_items.proofs.Common.{option_map, option_to_list, Bit, Decl, Names, process_refusals, Start, Building, AllBelow, IsSignal, empty, signal, Meaning, AddsItems, IsReady, Flat, Place}
use Rattle.elab_items.proofs.Common.{Clocks, FlatItem, Widths, AddsMeaning, widths_in, HasPlaces, Desk, Holds, names_at, names_in, start_error, AllMean, design_of, widths_of, declared, ItemsAreAdded}
use Rattle.elab_items.proofs.Common.{AllStart, CanStart, Builds, Refuses, Stands, BuildsAll, below_later}
use Rattle.std.proofs.Math.Seq.{take-length}
use Rattle.vlog_meaning.specs.declared.scope.Decl.TheVariants.{Signal, Constant}
use Rattle.vlog_meaning.specs.declared.fault.ConstError.{ConstError}
use Rattle.flat_instances.specs.declared.item.FlatItem.TheVariants as f
use Rattle.proc_muxes.specs.Working.{pending_of}
use Rattle.elab_items.proofs.Declaring.{widths_are}
use Rattle.elab_items.proofs.Assigning.{not_refused}

-- the names of a scope that is there
pub names_found : (places : List Place) (k : ℕ) (names : Names) → option_map (λ p. p.names) (slice_get places k) ≡ Some names → names_at places k ≡ names
names_found places k names h = go (slice_get places k) refl h where
  go : (o : Option Place) → slice_get places k ≡ o → option_map (λ p. p.names) o ≡ Some names → names_at places k ≡ names
  go (Some p) is e = let inner : p.names ≡ names = cc in ap names_in is ∙ inner
  go None is e = cc

pub same_signal : (old new : Building) (d : Option Decl) → new.signals ≡ old.signals → old.nets ≤ new.nets → IsSignal old d → IsSignal new d
same_signal old new None same le h = tt
same_signal old new (Some (Constant value low is_signed)) same le h = tt
same_signal old new (Some (Signal w low is_signed k)) same le h =
    let P : List (List Bit) → Type 0 = λ l. (k < length l) × (length (slice_index_or l k []) ≡ w) × AllBelow new.nets (slice_index_or l k []) in
    subst P (sym same) (h.0, h.1, below_later old.nets new.nets (signal old k) le h.2)

-- the builder has the same signals, and is ready
stands_on : (places : List Place) (old new : Building) → new.signals ≡ old.signals → old.nets ≤ new.nets → IsReady new → Stands places old → Stands places new
stands_on places old new same le ready h = record {
  ready = ready;
  signals = λ k name. same_signal old new (names_at places k name) same le (h.signals k name);
  some = subst (λ (l : List (List Bit)). (k : ℕ) → k < length l → 1 ≤ length (slice_index_or l k [])) (sym same) h.some;
  narrow = subst (λ (l : List (List Bit)). (k : ℕ) → length (slice_index_or l k []) ≤ 128) (sym same) h.narrow;
}

pub builds_stand : (inputs : List Bool) (places : List Place) (item : FlatItem) (old new : Building) → Builds inputs places item old new → Stands places old → Stands places new
builds_stand inputs places item old new b h = go b.meaning b.adds where
  go : (m : Option Meaning) → AddsMeaning old new m → Stands places new
  go None adds = subst (Stands places) (sym adds) h
  go (Some m) adds = stands_on places old new adds.signals adds.nets b.ready h

-- What is at hand stays at hand.

waits_on : (old new : Building) (waiting : List (List Bit)) → new.signals ≡ old.signals → old.nets ≤ new.nets → HasPlaces old waiting → HasPlaces new waiting
waits_on old new waiting same le h = record {
  count = h.count ∙ sym (ap (λ (l : List (List Bit)). length l) same);
  below = λ n. below_later old.nets new.nets (pending_of waiting n) le (h.below n);
}

pub builds_hold : (inputs : List Bool) (places : List Place) (item : FlatItem) (old new : Building) (desk : Desk) → Builds inputs places item old new → Holds places old desk → Holds places new desk
builds_hold inputs places item old new desk b h = go b.meaning b.adds where
  go : (m : Option Meaning) → AddsMeaning old new m → Holds places new desk
  go None adds = subst (λ (x : Building). Holds places x desk) (sym adds) h
  go (Some m) adds = record { scopes = h.scopes; waiting = waits_on old new desk.waiting adds.signals adds.nets h.waiting }

-- What all items add.

pub widths_from : (a b : Building) → b.signals ≡ a.signals → widths_in b ≡ widths_in a
widths_from a b same = ap (λ (l : List (List Bit)). λ (k : ℕ). length (slice_index_or l k [])) same

pub widths_stay : (m : Option Meaning) (old new : Building) → AddsMeaning old new m → widths_in new ≡ widths_in old
widths_stay None old new adds = ap widths_in adds
widths_stay (Some m) old new adds = widths_from old new adds.signals

adds_first : (m : Option Meaning) (ms : List Meaning) (old mid last : Building) → AddsMeaning old mid m → AddsItems ms mid last → AddsItems (option_to_list m ++ ms) old last
adds_first None ms old mid last adds h = subst (λ (x : Building). AddsItems ms x last) adds h
adds_first (Some m) ms old mid last adds h = (mid, adds, h)

all_added : (inputs : List Bool) (flat : Flat) (clocks : Clocks) (items : List FlatItem) (old last : Building) → BuildsAll inputs flat clocks items old last → (ms : List Meaning) × AllMean (widths_in old) flat.places items ms × AddsItems ms old last
all_added inputs flat clocks [] old last h = ([], refl, h)
all_added inputs flat clocks (item ∷ more) old last h =
    let mid = h.0 in
    let b = h.1.builds in
    let later = all_added inputs flat clocks more mid last h.2 in
    let means = subst (λ (w : Widths). AllMean w flat.places more later.0) (widths_stay b.meaning old mid b.adds) later.1 in
    (option_to_list b.meaning ++ later.0, (b.meaning, later.0, b.means, means, refl), adds_first b.meaning later.0 old mid last b.adds later.2)

-- Nothing is refused in the start values of items that are built.

no_error : (x : Option ConstError) → None ≡ option_map Start x → x ≡ None
no_error None e = refl
no_error (Some k) e = cc

start_accepted : (inputs : List Bool) (places : List Place) (item : FlatItem) (b : Building) → Refuses b inputs places item None → CanStart (widths_in b) places item
start_accepted inputs places (f.Starts number k value) b h = no_error (start_error (names_at places k) value (widths_in b number)) h
start_accepted inputs places (f.Runs k p) b h = (h.0, not_refused h.1 (process_refusals (names_at places k) h.0 p) h.3 h.4)
start_accepted inputs places (f.Declares k) b h = tt
start_accepted inputs places (f.Assigns k left right) b h = tt
start_accepted inputs places (f.Drives k net value) b h = tt
start_accepted inputs places (f.Enters port k value) b h = tt
start_accepted inputs places (f.Open port) b h = tt
start_accepted inputs places (f.Leaves k value inside port) b h = tt
start_accepted inputs places (f.Refuses error) b h = tt

all_accepted : (inputs : List Bool) (flat : Flat) (clocks : Clocks) (items : List FlatItem) (old last : Building) → BuildsAll inputs flat clocks items old last → AllStart (widths_in old) flat.places items
all_accepted inputs flat clocks [] old last h = tt
all_accepted inputs flat clocks (item ∷ more) old last h =
    let b = h.1.builds in
    let later = all_accepted inputs flat clocks more h.0 last h.2 in
    (start_accepted inputs flat.places item old b.accepted, subst (λ (w : Widths). AllStart w flat.places more) (widths_stay b.meaning old h.0 b.adds) later)

pub items_added : ItemsAreAdded
items_added ports clock flat inputs clocks first last begun h =
    let found = all_added inputs flat clocks flat.items first last h in
    let same : widths_in first ≡ widths_of flat.signals = widths_from (declared flat.signals empty) first (ap (λ (b : Building). b.signals) begun) ∙ (λ i k. widths_are flat.signals k i) in
    let means = subst (λ (w : Widths). AllMean w flat.places flat.items found.0) same found.1 in
    (design_of ports clock flat found.0, (found.0, means, refl), found.2, all_accepted inputs flat clocks flat.items first last h)

-- What is left of a list whose first item is taken.
pub rest_is : {A : Type 0} (l : List A) (x : A) (k : ℕ) → 1 ≤ length l → x ≡ get_or l 0 x → k ≡ length l - 1 → l ≡ x ∷ take k (drop 1 l)
rest_is {A = A} [] x k some is e = absurd (omega arith)
rest_is {A = A} (y ∷ more) x k some is e =
    let long : k ≡ length more = (let j : suc (length more) - 1 ≡ length more = omega arith in e ∙ j) in
    let all : take k more ≡ more = ap (λ (n : ℕ). take n more) long ∙ take-length more in
    ap (λ (l : List A). y ∷ l) (sym all) ∙ ap (λ (z : A). z ∷ take k more) (sym is)
