-- The first refusal of an item is one in builders that are alike.
use Rattle.elab_once.proofs.Common.{◌≡◌, ℕ, Bool, List, [], ◌∷◌, length, Option, None, Some, sym, ap, ◌∙◌, subst, option_map, slice_index_or, Bit, Expr, LeftSide, least, Names, Building, Refusal}
use Rattle.elab_once.proofs.Common.{left_once, first_once, widths_in, Place, FlatItem, Reason, Listed, Found, Start, Refuses, RefusesSides, wrong_value, names_at, start_error, IsSooner, AreAlike}
use Rattle.vlog_syntax.specs.declared.expr.Expr.TheVariants as e
use Rattle.vlog_syntax.specs.declared.left_side.LeftSide.TheVariants as l
use Rattle.flat_assigns.specs.Values.{right_refusals}
use Rattle.flat_instances.specs.declared.item.FlatItem.TheVariants as f
use Rattle.elab_once.proofs.Processes.{found_once, process_once}
use Rattle.elab_once.proofs.Sides.{sides_once}
use Rattle.elab_once.proofs.Steps.{AreKnown}

-- a signal has the same width in both
same_width : (b c : Building) (k : ℕ) → AreAlike b c → widths_in b k ≡ widths_in c k
same_width b c k h = ap (λ (s : List (List Bit)). length (slice_index_or s k [])) h.signals

leaves_once : (b c : Building) (inputs : List Bool) (lefts rights : Names) (left other : LeftSide) (right : Expr) (x y : Option Reason) → AreAlike b c → left ≡ other
    → RefusesSides b inputs lefts left rights right x → RefusesSides c inputs lefts other rights right y → x ≡ y
leaves_once b c inputs lefts rights left other right x y h is d o = sides_once b c inputs lefts left rights right x y h d (subst (λ (z : LeftSide). RefusesSides c inputs lefts z rights right y) (sym is) o)

pub refuses_once : (b c : Building) (inputs : List Bool) (places : List Place) (item : FlatItem) (x y : Option Reason) → AreAlike b c → ((k : ℕ) → AreKnown b.signals (names_at places k)) → Refuses b inputs places item x → Refuses c inputs places item y → x ≡ y
refuses_once b c inputs places (f.Declares k) x y h known d o = d ∙ sym o
refuses_once b c inputs places (f.Assigns k left right) x y h known d o = sides_once b c inputs (names_at places k) left (names_at places k) right x y h d o
refuses_once b c inputs places (f.Drives k net value) x y h known d o = sides_once b c inputs (names_at places k) (l.Name net) (names_at places k) value x y h d o
refuses_once b c inputs places (f.Enters port k value) x y h known d o =
    d ∙ ap (λ (w : ℕ). option_map wrong_value (least (right_refusals (names_at places k) value w))) (same_width b c port h) ∙ sym o
refuses_once b c inputs places (f.Open port) x y h known d o = d ∙ sym o
refuses_once b c inputs places (f.Leaves k value inside port) x y h known (left, is, d) (other, also, o) =
    leaves_once b c inputs (names_at places k) (names_at places inside) left other (e.Name port) x y h (left_once left other (is ∙ sym also)) d o
refuses_once b c inputs places (f.Runs k p) x y h known d o = process_once b c inputs (names_at places k) p x y h (known k) d o
refuses_once b c inputs places (f.Starts number k value) x y h known d o =
    d ∙ ap (λ (w : ℕ). option_map Start (start_error (names_at places k) value w)) (same_width b c number h) ∙ sym o
refuses_once b c inputs places (f.Refuses error) x y h known d o = d ∙ sym o

-- With the use of the clock.

-- the first is one, where the item's own is
sooner_same : (clock : List Refusal) (own x y : Option Reason) → IsSooner own clock x → IsSooner own clock y → x ≡ y
sooner_same clock None x y (g, first, d) (i, last, o) = found_once g i x y (first_once clock g i first last) d o
sooner_same clock (Some (Found a)) x y (g, first, d) (i, last, o) = found_once g i x y (first_once (a ∷ clock) g i first last) d o
sooner_same clock (Some (Listed a)) x y d o = d ∙ sym o
sooner_same clock (Some (Start a)) x y d o = d ∙ sym o

pub sooner_once : (clock : List Refusal) (own other x y : Option Reason) → own ≡ other → IsSooner own clock x → IsSooner other clock y → x ≡ y
sooner_once clock own other x y is d o = sooner_same clock own x y d (subst (λ (z : Option Reason). IsSooner z clock y) (sym is) o)
