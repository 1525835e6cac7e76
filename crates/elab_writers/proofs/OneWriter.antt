-- Each item that is built writes bits that nothing wrote before, so that each bit has one writer at most.
use Rattle.elab_writers.proofs.Common.{◌≡◌, ℕ, Bool, List, [], ◌∷◌, Option, None, Some, refl, sym, ap, ◌∙◌, subst, option_map, Expr, Process, LeftSide, Part, parts_of, Names, Store, Building, Refusal}
use Rattle.elab_writers.proofs.Common.{same_form, Meaning, Assign, places_from, HasOneWriter, IsNew, writer_stays, IsRefusal, assignment, left_width, slices, process_refusals, AcceptedCanBeBuilt}
use Rattle.elab_writers.proofs.Common.{Widths, AddsMeaning, process_meaning, widths_in, Flat, Place, FlatItem, Clocks, Builds, IsNewPort, Refuses, RefusesProcess, RefusesSides, Stands, found_in}
use Rattle.elab_writers.proofs.Common.{Means, names_at, BuildsAll, HasWriter, builds_stand, ItemsHaveOneWriter, AreFlagged}
use Rattle.vlog_syntax.specs.declared.expr.Expr.TheVariants as e
use Rattle.vlog_syntax.specs.declared.left_side.LeftSide.TheVariants as l
use Rattle.elab_proc.specs.Order.{IsFirst}
use Rattle.elab_proc.proofs.Forms.{left_once}
use Rattle.flat_assigns.specs.declared.refusal.Refusal.{Refusal as AssignRefusal}
use Rattle.flat_assigns.specs.Values.{right_value}
use Rattle.flat_assigns.specs.Writers.{IsFirstWritten, targets}
use Rattle.flat_instances.specs.declared.item.FlatItem.TheVariants as f
use Rattle.elab_items.specs.declared.error.Reason.TheVariants.{Found}
use Rattle.elab_writers.proofs.Inputs.{port_new}
use Rattle.elab_writers.proofs.Newness.{none_written, slices_new}
use Rattle.elab_writers.proofs.Processes.{process_new}

not_found : (x : Option AssignRefusal) → None ≡ option_map found_in x → x ≡ None
not_found None e = refl
not_found (Some r) e = absurd cc

given : (x y : Meaning) → Some x ≡ Some y → y ≡ x
given x y e = cc

-- an assignment to the parts of a left side, which may be refused as one of the same form
sides_new : (b : Building) (flags : List Bool) (ins : List ℕ) (lefts rights : Names) (first second : LeftSide) (right : Expr) (x : Meaning) → AreFlagged flags ins → same_form first ≡ same_form second → RefusesSides b flags lefts first rights right None
    → Some x ≡ Some (assignment lefts second rights right) → IsNew b ins x
sides_new b flags ins lefts rights first second right x flagged form h same =
    let none : IsRefusal b flags lefts first rights right None = subst (IsRefusal b flags lefts first rights right) (not_found h.0 h.2) h.1 in
    let free : IsFirstWritten b flags [] (targets (slices lefts (parts_of second))) None = subst (λ (ps : List Part). IsFirstWritten b flags [] (targets (slices lefts ps)) None) (ap parts_of (left_once first second form)) (none_written b flags lefts rights first right none) in
    subst (IsNew b ins) (given x (assignment lefts second rights right) same) (slices_new b flags ins (slices lefts (parts_of second)) (right_value rights right (left_width lefts second)) flagged free)

whole_new : (b : Building) (flags : List Bool) (ins : List ℕ) (port width : ℕ) (value : Store → ℕ) (x : Meaning) → AreFlagged flags ins → ¬ HasWriter b flags port → Some x ≡ Some (Assign (places_from port 0 width) value) → IsNew b ins x
whole_new b flags ins port width value x flagged free same = subst (IsNew b ins) (given x (Assign (places_from port 0 width) value) same) (port_new b flags ins port width value flagged free)

none_in : (xs : List Refusal) (x : Option Refusal) → IsFirst xs x → None ≡ option_map Found x → xs ≡ []
none_in xs None h e = h
none_in xs (Some r) h e = absurd cc

run_new : AcceptedCanBeBuilt → (b : Building) (flags : List Bool) (ins : List ℕ) (width : Widths) (names : Names) (p : Process) (x : Meaning) → AreFlagged flags ins → RefusesProcess b flags names p None → Some x ≡ process_meaning width names p → IsNew b ins x
run_new built b flags ins width names p x flagged h same = process_new built b flags h.0 ins width names p x flagged h.2 (none_in (process_refusals names h.0 p) h.1 h.3 h.4) same

-- Items.

item_new : AcceptedCanBeBuilt → (flags : List Bool) (ins : List ℕ) (places : List Place) (item : FlatItem) (b : Building) (x : Meaning) → AreFlagged flags ins → Refuses b flags places item None → IsNewPort b flags item → Means (widths_in b) places item (Some x) → IsNew b ins x
item_new built flags ins places (f.Declares k) b x flagged h port means = absurd cc
item_new built flags ins places (f.Assigns k left right) b x flagged h port means = sides_new b flags ins (names_at places k) (names_at places k) left left right x flagged refl h means
item_new built flags ins places (f.Drives k net value) b x flagged h port means = sides_new b flags ins (names_at places k) (names_at places k) (l.Name net) (l.Name net) value x flagged refl h means
item_new built flags ins places (f.Enters number k value) b x flagged h port means = whole_new b flags ins number (widths_in b number) (right_value (names_at places k) value (widths_in b number)) x flagged port means
item_new built flags ins places (f.Open number) b x flagged h port means = whole_new b flags ins number (widths_in b number) (λ store. 0) x flagged port means
item_new built flags ins places (f.Leaves k value inside name) b x flagged h port means =
    sides_new b flags ins (names_at places k) (names_at places inside) h.0 means.0 (e.Name name) x flagged (h.1 ∙ sym means.1) h.2 means.2
item_new built flags ins places (f.Runs k p) b x flagged h port means = run_new built b flags ins (widths_in b) (names_at places k) p x flagged h means
item_new built flags ins places (f.Starts number k value) b x flagged h port means = absurd cc
item_new built flags ins places (f.Refuses error) b x flagged h port means = absurd cc

item_keeps : AcceptedCanBeBuilt → (flags : List Bool) (ins : List ℕ) (places : List Place) (item : FlatItem) (old new : Building) → AreFlagged flags ins → Stands places old → HasOneWriter old ins → Builds flags places item old new → HasOneWriter new ins
item_keeps built flags ins places item old new flagged stands h b = go b.meaning b.means b.adds where
  go : (m : Option Meaning) → Means (widths_in old) places item m → AddsMeaning old new m → HasOneWriter new ins
  go None means adds = subst (λ (x : Building). HasOneWriter x ins) (sym adds) h
  go (Some x) means adds = writer_stays old new ins x stands.ready.own h (item_new built flags ins places item old x flagged b.accepted b.port means) adds

all_keep : AcceptedCanBeBuilt → (flat : Flat) (flags : List Bool) (clocks : Clocks) (ins : List ℕ) (items : List FlatItem) (old last : Building) → AreFlagged flags ins → Stands flat.places old → HasOneWriter old ins → BuildsAll flags flat clocks items old last → HasOneWriter last ins
all_keep can flat flags clocks ins [] old last flagged stands h built = subst (λ (x : Building). HasOneWriter x ins) (sym built) h
all_keep can flat flags clocks ins (item ∷ more) old last flagged stands h built =
    let b : Builds flags flat.places item old built.0 = built.1.builds in
    all_keep can flat flags clocks ins more built.0 last flagged (builds_stand flags flat.places item old built.0 b stands) (item_keeps can flags ins flat.places item old built.0 flagged stands h b) built.2

pub one_writer : AcceptedCanBeBuilt → ItemsHaveOneWriter
one_writer can flat flags clocks ins first last flagged stands h built = all_keep can flat flags clocks ins flat.items first last flagged stands h built
