-- What is asked of a builder where its netlist is made, where all items of a sound design are built.
use Rattle.elab_writers.proofs.Common.{◌≡◌, inl, inr, ℕ, ◌<◌, Bool, List, [], ◌∷◌, map, length, Option, None, Some, refl, sym, ap, ◌∙◌, subst, slice_get, slice_index_or, Contains}
use Rattle.elab_writers.proofs.Common.{Contains-append_cases, Bit, Register, Target, targets, Steps, Building, empty, signal, Meaning, stored_by, AddsItem, nothing_written, distinct, Known, Widths}
use Rattle.elab_writers.proofs.Common.{AddsMeaning, BuildsBy, meaning_of, process_steps, widths_in, variables, Flat, Place, FlatItem, Uses, AllStand, IsSound, port_numbers, Builds, HasParts, Stands}
use Rattle.elab_writers.proofs.Common.{Means, names_at, BuildsAll, builds_stand, registers_have, DesignsCanFinish, ItemsHaveOneWriter, declared_numbers, input_numbers, has_cases, has_none}
use Rattle.vlog_syntax.specs.declared.item.Direction.TheVariants.{Input, Output}
use Rattle.process_events.specs.Events as v
use Rattle.process_events.specs.Events.{Sensitivity, sensitivity}
use Rattle.proc_muxes.proofs.Frames.{known-distinct}
use Rattle.proc_muxes.proofs.Keeping.{keeps}
use Rattle.process_cells.specs.Processes.{Clocks}
use Rattle.process_cells.specs.Starts.{SameButStarts}
use Rattle.flat_items.specs.Tops.{own_in}
use Rattle.flat_instances.specs.declared.item.FlatItem.TheVariants as f
use Rattle.elab_items.specs.Signals.{declared}
use Rattle.elab_items.proofs.Declaring.{no_joints, no_registers}
use Rattle.elab_items.proofs.Sounding.{declared_stands, counted}
use Rattle.elab_items.proofs.Starting.{starts_stand}
use Rattle.elab_writers.proofs.Declared.{declared_has, declared_known, declared_once, once_least, once_most, ports_known, without_known}

-- Where items are built one after the other.

-- Signals and start values are those of the first builder.
pub record Same (old new : Building) : Type 0 where
  pub signals : new.signals ≡ old.signals
  pub starts : new.starts ≡ old.starts

item_same : (flags : List Bool) (places : List Place) (item : FlatItem) (old new : Building) → Builds flags places item old new → Same old new
item_same flags places item old new b = record { signals = go b.meaning b.adds; starts = b.starts } where
  go : (m : Option Meaning) → AddsMeaning old new m → new.signals ≡ old.signals
  go None adds = ap (λ (x : Building). x.signals) adds
  go (Some m) adds = adds.signals

pub all_same : (flags : List Bool) (flat : Flat) (clocks : Uses) (items : List FlatItem) (old last : Building) → BuildsAll flags flat clocks items old last → Same old last
all_same flags flat clocks [] old last built = record { signals = ap (λ (x : Building). x.signals) built; starts = ap (λ (x : Building). x.starts) built }
all_same flags flat clocks (item ∷ more) old last built =
    let here = item_same flags flat.places item old built.0 built.1.builds in
    let later = all_same flags flat clocks more built.0 last built.2 in
    record { signals = later.signals ∙ here.signals; starts = later.starts ∙ here.starts }

pub all_stand : (flags : List Bool) (flat : Flat) (clocks : Uses) (items : List FlatItem) (old last : Building) → Stands flat.places old → BuildsAll flags flat clocks items old last → Stands flat.places last
all_stand flags flat clocks [] old last stands built = subst (Stands flat.places) (sym built) stands
all_stand flags flat clocks (item ∷ more) old last stands built =
    all_stand flags flat clocks more built.0 last (builds_stand flags flat.places item old built.0 built.1.builds stands) built.2

-- Registers are those of signals.

abbrev AreOfSignals : Building → Type 0
AreOfSignals b = (r : Register) → Contains b.registers r → (k : ℕ) × (k < length b.signals) × (r.q ≡ signal b k)

known_target : (count : ℕ) (ts : List Target) (k : ℕ) → Known count ts → Contains (map (λ x. x.number) ts) k → k < count
known_target count [] k h c = absurd (has_none k c)
known_target count (x ∷ ts) k h c = elim (has_cases (map (λ y. y.number) ts) x.number k c) [ inl e ↦ subst (λ (j : ℕ). j < count) e h.0 | inr m ↦ known_target count ts k h.1 m ]

clocked_known : (steps : Steps) (old new : Building) (k : ℕ) → Clocks steps old new → Contains (variables steps) k → k < length old.signals
clocked_known steps old new k h c =
    let count : ℕ = length h.begun.building.signals in
    let known : Known count (distinct (targets steps)) = known-distinct count [] (targets steps) (keeps steps h.begun h.done h.built).known in
    subst (λ (b : Building). k < length b.signals) h.begun_is (known_target count (distinct (targets steps)) k known c)

given : (x y : Meaning) → Some x ≡ Some y → x ≡ y
given x y e = cc

-- what becomes a register is a signal
abbrev StoresKnown : Building → Meaning → Type 0
StoresKnown b m = (k : ℕ) → Contains (stored_by m) k → k < length b.signals

stores_none : (b : Building) (x y : Meaning) → Some x ≡ Some y → stored_by y ≡ [] → StoresKnown b x
stores_none b x y e none k c = absurd (has_none k (subst (λ (l : List ℕ). Contains l k) none (subst (λ (m : Meaning). Contains (stored_by m) k) (given x y e) c)))

run_stores : (width : Widths) (when : Sensitivity) (steps : Steps) (old new : Building) (x : Meaning) → Some x ≡ meaning_of width when steps → BuildsBy when steps old new → StoresKnown old x
run_stores width v.Once steps old new x same built k c = absurd cc
run_stores width (v.Refused at feature) steps old new x same built k c = absurd cc
run_stores width v.Combinational steps old new x same built k c = stores_none old x _ same refl k c
run_stores width (v.Clocked clock) steps old new x same built k c = clocked_known steps old new k built (subst (λ (m : Meaning). Contains (stored_by m) k) (given x _ same) c)

item_stores : (places : List Place) (item : FlatItem) (old new : Building) (x : Meaning) → Means (widths_in old) places item (Some x) → HasParts places item old new → StoresKnown old x
item_stores places (f.Declares k) old new x means parts = absurd cc
item_stores places (f.Assigns k left right) old new x means parts = stores_none old x _ means refl
item_stores places (f.Drives k net value) old new x means parts = stores_none old x _ means refl
item_stores places (f.Enters port k value) old new x means parts = stores_none old x _ means refl
item_stores places (f.Open port) old new x means parts = stores_none old x _ means refl
item_stores places (f.Leaves k value inside port) old new x means parts = stores_none old x _ means.2 refl
item_stores places (f.Runs k p) old new x means parts = run_stores (widths_in old) (sensitivity p) (process_steps (names_at places k) p) old new x means parts
item_stores places (f.Starts number k value) old new x means parts = absurd cc
item_stores places (f.Refuses error) old new x means parts = absurd cc

item_registers : (flags : List Bool) (places : List Place) (item : FlatItem) (old new : Building) → Builds flags places item old new → AreOfSignals old → AreOfSignals new
item_registers flags places item old new b h = go b.meaning b.means b.adds where
  added : (m : Meaning) → StoresKnown old m → AddsItem old new m → AreOfSignals new
  added m known adds r c = subst (λ (s : List (List Bit)). (k : ℕ) × (k < length s) × (r.q ≡ slice_index_or s k [])) (sym adds.signals) (elim (Contains-append_cases old.registers adds.more r (subst (λ (rs : List Register). Contains rs r) adds.registers c)) [
    | inl before ↦ h r before
    | inr here ↦ (let t = registers_have (record old { registers = adds.more }) (stored_by m) adds.stores r here in (t.0, known t.0 t.1, t.2))
  ])

  go : (m : Option Meaning) → Means (widths_in old) places item m → AddsMeaning old new m → AreOfSignals new
  go None means adds = subst AreOfSignals (sym adds) h
  go (Some m) means adds = added m (item_stores places item old new m means b.parts) adds

all_registers : (flags : List Bool) (flat : Flat) (clocks : Uses) (items : List FlatItem) (old last : Building) → AreOfSignals old → BuildsAll flags flat clocks items old last → AreOfSignals last
all_registers flags flat clocks [] old last h built = subst AreOfSignals (sym built) h
all_registers flags flat clocks (item ∷ more) old last h built = all_registers flags flat clocks more built.0 last (item_registers flags flat.places item old built.0 built.1.builds h) built.2

-- The builder in which the signals are declared.

pub first_stands : (flat : Flat) (first : Building) → IsSound flat → SameButStarts (declared flat.signals empty) first → Stands flat.places first
first_stands flat first sound same = starts_stand flat.places (declared flat.signals empty) first same (declared_stands flat sound).0

pub no_first_registers : (flat : Flat) (first : Building) → SameButStarts (declared flat.signals empty) first → first.registers ≡ []
no_first_registers flat first same = ap (λ (b : Building). b.registers) same ∙ no_registers flat.signals empty

first_joints : (flat : Flat) (first : Building) → SameButStarts (declared flat.signals empty) first → first.joints ≡ []
first_joints flat first same = ap (λ (b : Building). b.joints) same ∙ no_joints flat.signals empty

pub last_count : (flags : List Bool) (flat : Flat) (clocks : Uses) (first last : Building) → SameButStarts (declared flat.signals empty) first → BuildsAll flags flat clocks flat.items first last → length last.signals ≡ length flat.signals
last_count flags flat clocks first last same built =
    ap (λ (s : List (List Bit)). length s) ((all_same flags flat clocks flat.items first last built).signals ∙ ap (λ (b : Building). b.signals) same) ∙ counted flat.signals

no_registers_of : (b : Building) → b.registers ≡ [] → AreOfSignals b
no_registers_of b none r c = absurd (has_none r (subst (λ (rs : List Register). Contains rs r) none c))

registers_declared : (flat : Flat) (b : Building) → IsSound flat → length b.signals ≡ length flat.signals → AreOfSignals b → (r : Register) → Contains b.registers r → (k : ℕ) × Contains (declared_numbers flat.items) k × (r.q ≡ signal b k)
registers_declared flat b sound count h r c =
    let t = h r c in
    (t.0, declared_has flat.items t.0 (once_least t.0 (length flat.signals) _ (subst (λ (n : ℕ). t.0 < n) count t.1) (sound.once t.0)), t.2)

pub can_finish : ItemsHaveOneWriter → DesignsCanFinish
can_finish keeps_one ports clock flat flags clocks store first last lefts sound same starts built flagged once covered =
    let ins : List ℕ = input_numbers ports clock flat in
    let stands : Stands flat.places first = first_stands flat first sound same in
    let end : Stands flat.places last = all_stand flags flat clocks flat.items first last stands built in
    let count : length last.signals ≡ length flat.signals = last_count flags flat clocks first last same built in
    let still : Same first last = all_same flags flat clocks flat.items first last built in
    record {
      own = end.ready.own;
      stands = end.ready.stands;
      writers = keeps_one flat flags clocks ins first last flagged stands (nothing_written first ins (first_joints flat first same) (no_first_registers flat first same)) built;
      started = ap (λ (l : List ℕ). length l) still.starts ∙ starts.count ∙ ap (λ (s : List (List Bit)). length s) (sym still.signals);
      some = end.some;
      narrow = end.narrow;
      entered = without_known last clock (port_numbers Input flat.signals (own_in (slice_get flat.places 0)) ports) (ports_known last Input flat.signals (own_in (slice_get flat.places 0)) count ports);
      entered_once = once;
      shown = ports_known last Output flat.signals (own_in (slice_get flat.places 0)) count ports;
      declared_known = declared_known last (length flat.places) flat.items (subst (λ (n : ℕ). AllStand n (length flat.places) flat.items) (sym count) sound.items);
      declared_once = declared_once flat.items (λ k. once_most k (length flat.signals) _ (sound.once k));
      registered = registers_declared flat last sound count (all_registers flags flat clocks flat.items first last (no_registers_of first (no_first_registers flat first same)) built);
      covered = covered;
    }
