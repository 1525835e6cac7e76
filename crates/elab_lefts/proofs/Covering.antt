-- Where items are built, each net that they join is one of their left sides.
use Rattle.elab_lefts.proofs.Common.{◌≡◌, ◌⊎◌, inl, inr, ℕ, ◌+◌, ◌<◌, ◌≤◌, Bool, List, [], ◌∷◌, map, Option, Some, None, refl, sym, ap, ◌∙◌, subst, slice_get, slice_index_or, Contains, flat_map}
use Rattle.elab_lefts.proofs.Common.{Process, Names, Building, empty, signal, same_form, Signal, slices, targets, Flat, Place, FlatItem, Left, widths_of, declared, names_at, bit_left, design_lefts}
use Rattle.elab_lefts.proofs.Common.{item_lefts, lefts_by, process_lefts, has_none}
use Rattle.std.proofs.lemmas.List.Elements.{Contains-append_cases, Contains-append_left, Contains-append_right}
use Rattle.std.proofs.lemmas.Option.{slice_get_within, same_Some}
use Rattle.netlist_core.specs.declared.bit.Bit.{Bit}
use Rattle.netlist_core.specs.declared.bit.Bit.TheVariants.{Net}
use Rattle.vlog_syntax.specs.declared.expr.Expr.{Expr}
use Rattle.vlog_syntax.specs.declared.left_side.LeftSide.{LeftSide}
use Rattle.vlog_syntax.specs.declared.left_side.LeftSide.TheVariants as l
use Rattle.vlog_effects.specs.LeftSides.{Part, parts_of}
use Rattle.vlog_effects.specs.Steps.{Steps}
use Rattle.net_builder.specs.declared.builder.Joint.{Joint}
use Rattle.net_builder.specs.Written.{IsJoined}
use Rattle.process_events.specs.Events.{Sensitivity, Once, Combinational, Clocked, Refused, sensitivity}
use Rattle.process_latches.specs.Refused.{process_refusals}
use Rattle.process_latches.specs.Sound.{sound}
use Rattle.process_latches.specs.Writes.{writes}
use Rattle.process_cells.specs.Items.{Widths, AddsMeaning, IsFit, effect_of, meaning_of, process_meaning, process_steps, widths_in}
use Rattle.process_cells.specs.Processes.{variables}
use Rattle.process_cells.proofs.Fits.{process_fit}
use Rattle.flat_runs.specs.Meanings.{Meaning, Joins}
use Rattle.flat_runs.specs.Meanings as meaning
use Rattle.flat_runs.specs.Adding.{IsBit}
use Rattle.flat_assigns.specs.Assignments.{assignment}
use Rattle.flat_assigns.specs.Forms.{form_parts}
use Rattle.flat_assigns.proofs.Forms.{form_is}
use Rattle.flat_clocks.specs.Clocks.{Clocks}
use Rattle.flat_instances.specs.declared.item.FlatItem.TheVariants as f
use Rattle.elab_finish.specs.Loops.{WritesNet}
use Rattle.elab_finish.proofs.Lefts.{joined_covered}
use Rattle.elab_items.specs.Items.{Builds, Refuses}
use Rattle.elab_items.specs.Meanings.{Means, entering, opening}
use Rattle.elab_items.specs.Timed.{BuildsAll}
use Rattle.elab_items.proofs.Declaring.{no_joints, widths_are}
use Rattle.elab_items.proofs.Assigning.{none_not, not_refused, variable_met}
use Rattle.elab_items.proofs.Standing.{widths_from, widths_stay}
use Rattle.elab_lefts.specs.Laws.{BuiltAreCovered}
use Rattle.elab_lefts.proofs.Found.{Found, places_found, port_found, writes_found}
use Rattle.elab_items.proofs.Noting.{same_signals}

-- Processes.

by_found : (signals : List Signal) (width : Widths) (when : Sensitivity) (steps : Steps) (m : Meaning) (k i : ℕ) → IsFit when steps → Some m ≡ meaning_of width when steps → i < widths_of signals k → Joins m k i → Found (lefts_by signals when (writes (sound steps))) k i
by_found signals width Once steps m k i fit is less joins = absurd (none_not m is)
by_found signals width (Refused at feature) steps m k i fit is less joins = absurd (none_not m is)
by_found signals width Combinational steps m k i fit is less joins =
    let among = subst (λ (x : Meaning). Joins x k i) (same_Some m (meaning.Combinational (variables steps) (effect_of width steps)) is) joins in
    writes_found signals (writes (sound steps)) k i (variable_met _ steps k fit among) less
by_found signals width (Clocked clock) steps m k i fit is less joins =
    absurd (subst (λ (x : Meaning). Joins x k i) (same_Some m (meaning.Clocked (variables steps) (effect_of width steps)) is) joins)

process_found : (signals : List Signal) (names : Names) (p : Process) (written : List Bool) (width : Widths) (m : Meaning) (k i : ℕ) → process_refusals names written p ≡ [] → Some m ≡ process_meaning width names p → i < widths_of signals k → Joins m k i → Found (process_lefts signals names p) k i
process_found signals names p written width m k i none is less joins = by_found signals width (sensitivity p) (process_steps names p) m k i (process_fit names written p none) is less joins

-- Assignments.

side_found : (lefts : Names) (left : LeftSide) (rights : Names) (right : Expr) (m : Meaning) (k i : ℕ) → Some m ≡ Some (assignment lefts left rights right) → Joins m k i → Found (map bit_left (targets (slices lefts (parts_of left)))) k i
side_found lefts left rights right m k i is joins = places_found (slices lefts (parts_of left)) k i (subst (λ (x : Meaning). Joins x k i) (same_Some m (assignment lefts left rights right) is) joins)

form_found : (lefts : Names) (left : LeftSide) (value : Expr) (rights : Names) (right : Expr) (m : Meaning) (k i : ℕ) → same_form left ≡ value → Some m ≡ Some (assignment lefts left rights right) → Joins m k i → Found (map bit_left (targets (slices lefts (form_parts value)))) k i
form_found lefts left value rights right m k i form is joins =
    subst (λ (ps : List Part). Found (map bit_left (targets (slices lefts ps))) k i) (sym (form_is left) ∙ ap form_parts form) (side_found lefts left rights right m k i is joins)

-- Items.

item_found : (signals : List Signal) (places : List Place) (inputs : List Bool) (item : FlatItem) (b : Building) (m : Meaning) (k i : ℕ) → Refuses b inputs places item None → Means (widths_in b) places item (Some m) → i < widths_of signals k → Joins m k i → Found (item_lefts signals places item) k i
item_found signals places inputs (f.Declares j) b m k i accepted means less joins = absurd (none_not m means)
item_found signals places inputs (f.Assigns j left right) b m k i accepted means less joins = side_found (names_at places j) left (names_at places j) right m k i means joins
item_found signals places inputs (f.Drives j net value) b m k i accepted means less joins = side_found (names_at places j) (l.Name net) (names_at places j) value m k i means joins
item_found signals places inputs (f.Enters port j value) b m k i accepted means less joins =
    port_found signals port (widths_in b port) k i (subst (λ (x : Meaning). Joins x k i) (same_Some m (entering (widths_in b) port (names_at places j) value) means) joins) less
item_found signals places inputs (f.Open port) b m k i accepted means less joins =
    port_found signals port (widths_in b port) k i (subst (λ (x : Meaning). Joins x k i) (same_Some m (opening (widths_in b) port) means) joins) less
item_found signals places inputs (f.Leaves j value inside port) b m k i accepted means less joins = form_found (names_at places j) means.0 value (names_at places inside) _ m k i means.1 means.2 joins
item_found signals places inputs (f.Runs j p) b m k i accepted means less joins =
    process_found signals (names_at places j) p accepted.0 (widths_in b) m k i (not_refused accepted.1 (process_refusals (names_at places j) accepted.0 p) accepted.3 accepted.4) means less joins
item_found signals places inputs (f.Starts number j value) b m k i accepted means less joins = absurd (none_not m means)
item_found signals places inputs (f.Refuses error) b m k i accepted means less joins = absurd (none_not m means)

-- a left side of the list writes the net
abbrev Covers : List Left → Building → ℕ → Type 0
Covers lefts b n = (left : Left) × Contains lefts left × WritesNet b left n

item_covers : (signals : List Signal) (places : List Place) (inputs : List Bool) (item : FlatItem) (old new : Building) (n : ℕ) → widths_in old ≡ widths_of signals → Builds inputs places item old new → IsJoined new n → IsJoined old n ⊎ Covers (item_lefts signals places item) old n
item_covers signals places inputs item old new n widths h j = go h.meaning refl h.adds where
  go : (o : Option Meaning) → h.meaning ≡ o → AddsMeaning old new o → IsJoined old n ⊎ Covers (item_lefts signals places item) old n
  go None is adds = inl (subst (λ (x : Building). IsJoined x n) adds j)
  go (Some m) is adds = elim (Contains-append_cases old.joints adds.joints (record { net = n; bit = j.0 }) (subst (λ (x : List Joint). Contains x (record { net = n; bit = j.0 })) adds.joined j.1)) [
    | inl c ↦ inl (j.0, c)
    | inr c ↦
        let t = adds.joins (record { net = n; bit = j.0 }) c in
        let less = subst (λ (w : Widths). t.1 < w t.0) widths (slice_get_within (signal old t.0) t.1 (Net n) t.2) in
        let found = item_found signals places inputs item old m t.0 t.1 h.accepted (subst (Means (widths_in old) places item) is h.means) less t.3 in
        inr (found.0, found.1, (t.1, found.2.low, found.2.high, subst (λ (s : ℕ). IsBit old s t.1 n) (sym found.2.signal) t.2))
  ]

-- All items.

signals_last : (flat : Flat) (inputs : List Bool) (clocks : Clocks) (items : List FlatItem) (old last : Building) → BuildsAll inputs flat clocks items old last → last.signals ≡ old.signals
signals_last flat inputs clocks [] old last h = ap (λ (b : Building). b.signals) h
signals_last flat inputs clocks (item ∷ more) old last h = signals_last flat inputs clocks more h.0 last h.2 ∙ same_signals h.1.builds.meaning old h.0 h.1.builds.adds

-- a left side writes the same net wherever the signals are the same
abbrev WritesIn : List (List Bit) → Left → ℕ → Type 0
WritesIn signals left n = (i : ℕ) × (left.first ≤ i) × (i < left.first + left.count) × (slice_get (slice_index_or signals left.signal []) i ≡ Some (Net n))

writes_there : (a b : Building) (left : Left) (n : ℕ) → a.signals ≡ b.signals → WritesNet a left n → WritesNet b left n
writes_there a b left n same h = subst (λ (x : List (List Bit)). WritesIn x left n) same h

all_cover : (flat : Flat) (inputs : List Bool) (clocks : Clocks) (items : List FlatItem) (old last : Building) (n : ℕ) → widths_in old ≡ widths_of flat.signals → BuildsAll inputs flat clocks items old last → IsJoined last n → IsJoined old n ⊎ Covers (flat_map (item_lefts flat.signals flat.places) items) old n
all_cover flat inputs clocks [] old last n widths h j = inl (subst (λ (x : Building). IsJoined x n) h j)
all_cover flat inputs clocks (item ∷ more) old last n widths h j = elim (all_cover flat inputs clocks more h.0 last n (widths_stay h.1.builds.meaning old h.0 h.1.builds.adds ∙ widths) h.2 j) [
  | inl before ↦ elim (item_covers flat.signals flat.places inputs item old h.0 n widths h.1.builds before) [
    | inl first ↦ inl first
    | inr t ↦ inr (t.0, Contains-append_left (item_lefts flat.signals flat.places item) (flat_map (item_lefts flat.signals flat.places) more) t.0 t.1, t.2)
  ]
  | inr t ↦ inr (t.0, Contains-append_right (item_lefts flat.signals flat.places item) (flat_map (item_lefts flat.signals flat.places) more) t.0 t.1, writes_there h.0 old t.0 n (same_signals h.1.builds.meaning old h.0 h.1.builds.adds) t.2)
]

pub built_are_covered : BuiltAreCovered
built_are_covered flat inputs clocks first last begun h = joined_covered last (design_lefts flat) each where
  widths : widths_in first ≡ widths_of flat.signals
  widths = widths_from (declared flat.signals empty) first (ap (λ (b : Building). b.signals) begun) ∙ (λ i k. widths_are flat.signals k i)

  none : first.joints ≡ []
  none = ap (λ (b : Building). b.joints) begun ∙ no_joints flat.signals empty

  each : (n : ℕ) → IsJoined last n → Covers (design_lefts flat) last n
  each n j = elim (all_cover flat inputs clocks flat.items first last n widths h j) [
    | inl old ↦ absurd (has_none (record { net = n; bit = old.0 }) (subst (λ (x : List Joint). Contains x (record { net = n; bit = old.0 })) none old.1))
    | inr t ↦ (t.0, t.1, writes_there first last t.0 n (sym (signals_last flat inputs clocks flat.items first last h)) t.2)
  ]
