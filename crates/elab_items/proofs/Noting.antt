-- The flags of signals while items are built.
use Rattle.elab_items.proofs.Common.{◌≡◌, ◌⊎◌, ◌↔◌, inl, inr, ℕ, zero, suc, ◌<◌, Bool, IsTrue, List, [], ◌∷◌, map, length, Option, Some, None, refl, sym, ap, ◌∙◌, subst, slice_get, slice_index_or}
use Rattle.elab_items.proofs.Common.{Contains, slice_get_within, same_Some, Bit, Expr, Process, LeftSide, Names, Part, parts_of, Steps, Building, signal, is_written, same_form, Write}
use Rattle.elab_items.proofs.Common.{process_refusals, sound, writes, Widths, AddsMeaning, IsFit, effect_of, meaning_of, process_meaning, process_steps, widths_in, variables, HasPlaces, Meaning}
use Rattle.elab_items.proofs.Common.{Writes, places_from, assignment, form_parts, slices, Target, targets, form_is, Place, FlatItem, Desk, item_numbers, process_writes, AreCopies, AreRenewed}
use Rattle.elab_items.proofs.Common.{AreSound, HasFlags, Holds, Serves, Builds, Refuses, Means, entering, opening, names_at, HasWriter, IsBitWritten, SomeBitWritten, TellsWriters, has_first}
use Rattle.netlist_core.specs.declared.bit.Bit.TheVariants.{Fixed, Net}
use Rattle.vlog_syntax.specs.declared.left_side.LeftSide.TheVariants as l
use Rattle.net_builder.specs.Written.{IsJoined, IsStored}
use Rattle.process_events.specs.Events.{Sensitivity, Once, Combinational, Clocked, Refused, sensitivity}
use Rattle.process_cells.proofs.Fits.{process_fit}
use Rattle.flat_runs.specs.Meanings as meaning
use Rattle.flat_instances.specs.declared.item.FlatItem.TheVariants as f
use Rattle.elab_items.proofs.Assigning.{contains_map, none_not, not_refused, places_met, port_is, variable_met}

-- Each signal that an item writes is one of its numbers.

side_numbered : (lefts : Names) (left : LeftSide) (rights : Names) (right : Expr) (m : Meaning) (k i : ℕ) → Some m ≡ Some (assignment lefts left rights right) → Writes m k i → Contains (map (λ (t : Target). t.place.signal) (targets (slices lefts (parts_of left)))) k
side_numbered lefts left rights right m k i is w =
    let ts = targets (slices lefts (parts_of left)) in
    let t = places_met (slices lefts (parts_of left)) (record { signal = k; bit = i }) (subst (λ (x : Meaning). Writes x k i) (same_Some m (assignment lefts left rights right) is) w) in
    subst (Contains (map (λ (x : Target). x.place.signal) ts)) (ap (λ (p : meaning.Place). p.signal) t.2) (contains_map (λ (x : Target). x.place.signal) ts t.0 t.1)

form_numbered : (lefts : Names) (left : LeftSide) (value : Expr) (rights : Names) (right : Expr) (m : Meaning) (k i : ℕ) → same_form left ≡ value → Some m ≡ Some (assignment lefts left rights right) → Writes m k i → Contains (map (λ (t : Target). t.place.signal) (targets (slices lefts (form_parts value)))) k
form_numbered lefts left value rights right m k i form is w =
    subst (λ (ps : List Part). Contains (map (λ (t : Target). t.place.signal) (targets (slices lefts ps))) k) (sym (form_is left) ∙ ap form_parts form) (side_numbered lefts left rights right m k i is w)

port_numbered : (port w k i : ℕ) → Contains (places_from port 0 w) (Some (record { signal = k; bit = i })) → Contains (port ∷ []) k
port_numbered port w k i c = subst (Contains (port ∷ [])) (port_is port 0 w k i c) (has_first [] port)

by_numbered : (width : Widths) (when : Sensitivity) (steps : Steps) (m : Meaning) (k i : ℕ) → IsFit when steps → Some m ≡ meaning_of width when steps → Writes m k i → Contains (map (λ (w : Write). w.number) (writes (sound steps))) k
by_numbered width Once steps m k i fit is w = absurd (none_not m is)
by_numbered width (Refused at feature) steps m k i fit is w = absurd (none_not m is)
by_numbered width Combinational steps m k i fit is w = variable_met _ steps k fit (subst (λ (x : Meaning). Writes x k i) (same_Some m (meaning.Combinational (variables steps) (effect_of width steps)) is) w)
by_numbered width (Clocked clock) steps m k i fit is w = variable_met _ steps k fit (subst (λ (x : Meaning). Writes x k i) (same_Some m (meaning.Clocked (variables steps) (effect_of width steps)) is) w)

process_numbered : (names : Names) (p : Process) (written : List Bool) (width : Widths) (m : Meaning) (k i : ℕ) → process_refusals names written p ≡ [] → Some m ≡ process_meaning width names p → Writes m k i → Contains (map (λ (w : Write). w.number) (process_writes names p)) k
process_numbered names p written width m k i none is w = by_numbered width (sensitivity p) (process_steps names p) m k i (process_fit names written p none) is w

item_numbered : (places : List Place) (inputs : List Bool) (item : FlatItem) (b : Building) (m : Meaning) (k i : ℕ) → Refuses b inputs places item None → Means (widths_in b) places item (Some m) → Writes m k i → Contains (item_numbers places item) k
item_numbered places inputs (f.Declares j) b m k i accepted means w = absurd (none_not m means)
item_numbered places inputs (f.Assigns j left right) b m k i accepted means w = side_numbered (names_at places j) left (names_at places j) right m k i means w
item_numbered places inputs (f.Drives j net value) b m k i accepted means w = side_numbered (names_at places j) (l.Name net) (names_at places j) value m k i means w
item_numbered places inputs (f.Enters port j value) b m k i accepted means w = port_numbered port (widths_in b port) k i (subst (λ (x : Meaning). Writes x k i) (same_Some m (entering (widths_in b) port (names_at places j) value) means) w)
item_numbered places inputs (f.Open port) b m k i accepted means w = port_numbered port (widths_in b port) k i (subst (λ (x : Meaning). Writes x k i) (same_Some m (opening (widths_in b) port) means) w)
item_numbered places inputs (f.Leaves j value inside port) b m k i accepted means w = form_numbered (names_at places j) means.0 value (names_at places inside) _ m k i means.1 means.2 w
item_numbered places inputs (f.Runs j p) b m k i accepted means w =
    process_numbered (names_at places j) p accepted.0 (widths_in b) m k i (not_refused accepted.1 (process_refusals (names_at places j) accepted.0 p) accepted.3 accepted.4) means w
item_numbered places inputs (f.Starts number j value) b m k i accepted means w = absurd (none_not m means)
item_numbered places inputs (f.Refuses error) b m k i accepted means w = absurd (none_not m means)

-- Signals with written bits.

abbrev SomeAt : Building → List Bit → Type 0
SomeAt b bits = (i : ℕ) × (n : ℕ) × (slice_get bits i ≡ Some (Net n)) × (IsJoined b n ⊎ IsStored b n)

some_at : (b : Building) (bits : List Bit) → SomeBitWritten b bits → SomeAt b bits
some_at b [] h = absurd h
some_at b (Net n ∷ more) (inl w) = (0, n, refl, w)
some_at b (Fixed v ∷ more) (inl w) = absurd w
some_at b (x ∷ more) (inr m) = let t = some_at b more m in (suc t.0, t.1, t.2, t.3)

pub at_some : (b : Building) (bits : List Bit) (i n : ℕ) → slice_get bits i ≡ Some (Net n) → IsJoined b n ⊎ IsStored b n → SomeBitWritten b bits
at_some b [] i n e w = absurd cc
at_some b (x ∷ more) zero n e w = let same : x ≡ Net n = cc in inl (subst (IsBitWritten b) (sym same) w)
at_some b (x ∷ more) (suc i) n e w = inr (at_some b more i n e w)

-- what is written stays written
some_kept : (o : Option Meaning) (old new : Building) (k : ℕ) → AddsMeaning old new o → SomeBitWritten old (signal old k) → SomeBitWritten new (signal new k)
some_kept None old new k adds s = subst (λ (b : Building). SomeBitWritten b (signal b k)) (sym adds) s
some_kept (Some m) old new k adds s =
    let t = some_at old (signal old k) s in
    let w = adds.writes k t.0 (slice_get_within (signal old k) t.0 (Net t.1) t.2) (inl (t.1, t.2, t.3)) in
    at_some new (signal new k) t.0 w.0 w.1 w.2

writer_kept : (inputs : List Bool) (places : List Place) (item : FlatItem) (old new : Building) (k : ℕ) → Builds inputs places item old new → HasWriter old inputs k → HasWriter new inputs k
writer_kept inputs places item old new k h (inl input) = inl input
writer_kept inputs places item old new k h (inr s) = inr (some_kept h.meaning old new k h.adds s)

-- and a signal that the item gives no value has a writer only where it had one
some_before : (inputs : List Bool) (places : List Place) (item : FlatItem) (old new : Building) (k : ℕ) (o : Option Meaning)
    → Refuses old inputs places item None → Means (widths_in old) places item o → (¬ Contains (item_numbers places item) k) → AddsMeaning old new o → SomeBitWritten new (signal new k) → SomeBitWritten old (signal old k)
some_before inputs places item old new k None accepted means not adds s = subst (λ (b : Building). SomeBitWritten b (signal b k)) adds s
some_before inputs places item old new k (Some m) accepted means not adds s =
    let t = some_at new (signal new k) s in
    let at = subst (λ (x : List (List Bit)). slice_get (slice_index_or x k []) t.0 ≡ Some (Net t.1)) adds.signals t.2 in
    elim (adds.written k t.0 (slice_get_within (signal old k) t.0 (Net t.1) at) (t.1, t.2, t.3)) [
      | inl w ↦ at_some old (signal old k) t.0 w.0 w.1 w.2
      | inr w ↦ absurd (not (item_numbered places inputs item old m k t.0 accepted means w))
    ]

writer_before : (inputs : List Bool) (places : List Place) (item : FlatItem) (old new : Building) (k : ℕ) → Builds inputs places item old new → (¬ Contains (item_numbers places item) k) → HasWriter new inputs k → HasWriter old inputs k
writer_before inputs places item old new k h not (inl input) = inl input
writer_before inputs places item old new k h not (inr s) = inr (some_before inputs places item old new k h.meaning h.accepted h.means not h.adds s)

pub same_signals : (o : Option Meaning) (old new : Building) → AddsMeaning old new o → new.signals ≡ old.signals
same_signals None old new adds = ap (λ (b : Building). b.signals) adds
same_signals (Some m) old new adds = adds.signals

pub builds_signals : (inputs : List Bool) (places : List Place) (item : FlatItem) (old new : Building) → Builds inputs places item old new → new.signals ≡ old.signals
builds_signals inputs places item old new h = same_signals h.meaning old new h.adds

flags_stay : (inputs : List Bool) (places : List Place) (item : FlatItem) (old new : Building) (a c : List Bool) → Builds inputs places item old new → HasFlags old inputs a → AreRenewed new inputs (item_numbers places item) a c → HasFlags new inputs c
flags_stay inputs places item old new a c h flags renewed =
    let same = builds_signals inputs places item old new h in
    record { count = renewed.count ∙ flags.count ∙ sym (ap (λ (l : List (List Bit)). length l) same); tells = λ k less. go k less (renewed.each k less) } where
      go : (k : ℕ) → k < length new.signals → (IsTrue (is_written c k) ↔ HasWriter new inputs k) ⊎ ((¬ Contains (item_numbers places item) k) × (is_written c k ≡ is_written a k)) → IsTrue (is_written c k) ↔ HasWriter new inputs k
      go k less (inl tells) = tells
      go k less (inr kept) =
          let known = subst (λ (l : List (List Bit)). k < length l) (builds_signals inputs places item old new h) less in
          let told = flags.tells k known in
          subst (λ (x : Bool). IsTrue x ↔ HasWriter new inputs k) (sym kept.1) (
            λ set. writer_kept inputs places item old new k h (told.0 set),
            λ w. told.1 (writer_before inputs places item old new k h kept.0 w),
          )

-- What is at hand.

pub desk_serves : (inputs : List Bool) (places : List Place) (b : Building) (desk : Desk) → AreCopies places desk.scopes.items → HasPlaces b desk.waiting → length desk.written.items ≡ length b.signals → TellsWriters b inputs desk.written.items → Serves inputs places b desk
desk_serves inputs places b desk scopes waiting count tells = record { holds = record { scopes = scopes; waiting = waiting }; flags = record { count = count; tells = tells } }

pub note_count : (inputs : List Bool) (places : List Place) (item : FlatItem) (old new : Building) (first mid : Desk) → Serves inputs places old first → Builds inputs places item old new → mid.written.items ≡ first.written.items → length mid.written.items ≡ length new.signals
note_count inputs places item old new first mid serves h same = ap (λ (w : List Bool). length w) same ∙ serves.flags.count ∙ sym (ap (λ (l : List (List Bit)). length l) (builds_signals inputs places item old new h))

pub note_sound : (inputs : List Bool) (places : List Place) (item : FlatItem) (old new : Building) (first mid : Desk) → Serves inputs places old first → Builds inputs places item old new → mid.written.items ≡ first.written.items → AreSound new inputs mid.written.items
note_sound inputs places item old new first mid serves h same k less set =
    let known = subst (λ (l : List (List Bit)). k < length l) (builds_signals inputs places item old new h) less in
    writer_kept inputs places item old new k h ((serves.flags.tells k known).0 (subst (λ (w : List Bool). IsTrue (is_written w k)) same set))

pub builds_serve : (inputs : List Bool) (places : List Place) (item : FlatItem) (old new : Building) (first mid last : Desk) → Serves inputs places old first → Builds inputs places item old new → mid.written.items ≡ first.written.items → Holds places new last → AreRenewed new inputs (item_numbers places item) mid.written.items last.written.items → Serves inputs places new last
builds_serve inputs places item old new first mid last serves h same holds renewed =
    record { holds = holds; flags = flags_stay inputs places item old new first.written.items last.written.items h serves.flags (subst (λ (w : List Bool). AreRenewed new inputs (item_numbers places item) w last.written.items) same renewed) }
