-- Sides of assignments with shapes fit.
use Rattle.tb_settling.proofs.Common.{◌≡◌, Bool, true, ◌&&◌, List, [], ◌∷◌, ◌++◌, map, refl, sym, subst, Identifier, Expr, Assignment, Names, left_nil, right_nil, AreFit, check_can, and_left}
use Rattle.tb_settling.proofs.Common.{and_right, empty_is, SidesFit}
use Rattle.mcy_base.specs.declared.span.Span.{Span}
use Rattle.vlog_syntax.specs.declared.expr.Expr.TheVariants as v
use Rattle.vlog_syntax.specs.declared.left_side.LeftSide.{LeftSide}
use Rattle.vlog_syntax.specs.declared.left_side.LeftSide.TheOpen as l
use Rattle.vlog_syntax.specs.declared.left_side.LeftSide.TheOpen.{LeftSide-F}
use Rattle.vlog_syntax.specs.declared.left_side.LeftSide.TheViews.{roll-LeftSide}
use Rattle.vlog_syntax.specs.declared.left_side.LeftSide.TheFolds.{fold-roll-LeftSide, ind-LeftSide, map-LeftSide}
use Rattle.vlog_meaning.specs.Senses.{sense, senses, all_faults, IsWhole}
use Rattle.vlog_meaning.proofs.Steps.{sense_bit_select, sense_part_select, sense_indexed_part_select}
use Rattle.vlog_meaning.proofs.Whole.{name_sized, whole_name, whole_index, whole_part, whole_indexed, whole_join, says}
use Rattle.vlog_effects.specs.LeftSides.{Part, Whole, Bit, Range, Indexed, parts_of, parts_step, concatenated}
use Rattle.elab_proc.specs.Refusals.{same_form, form_step}
use Rattle.tb_assigns.specs.Checks.{has_shape, all_signals, can_assign}
use Rattle.tb_assigns.specs.Updates.{CanAssign}

abbrev Fits : Names → Expr → List Part → Type 0
Fits names e ps = IsWhole names e → AreFit names ps

fits_name : (names : Names) (n : Identifier) → Fits names (v.Name n) (record { name = n; select = Whole } ∷ [])
fits_name names n whole = ((whole_name names (v.Name n) n refl whole, tt), tt)

fits_bit : (names : Names) (n : Identifier) (at : Span) (i : Expr) → Fits names (v.BitSelect n at i) (record { name = n; select = Bit at i } ∷ [])
fits_bit names n at i whole = ((name_sized n.span (names n.name) (left_nil _ _ (says names (v.BitSelect n at i) _ (sense_bit_select names n at i) whole)), whole_index names (v.BitSelect n at i) n at i refl whole), tt)

fits_range : (names : Names) (n : Identifier) (at : Span) (msb lsb : Expr) → Fits names (v.PartSelect n at msb lsb) (record { name = n; select = Range at msb lsb } ∷ [])
fits_range names n at msb lsb whole =
    let inner = whole_part names (v.PartSelect n at msb lsb) n at msb lsb refl whole in
    ((name_sized n.span (names n.name) (left_nil _ _ (says names (v.PartSelect n at msb lsb) _ (sense_part_select names n at msb lsb) whole)), (inner.msb, inner.lsb, inner.narrow)), tt)

fits_indexed : (names : Names) (n : Identifier) (at : Span) (base count : Expr) → Fits names (v.IndexedPartSelect n at base count) (record { name = n; select = Indexed at base count } ∷ [])
fits_indexed names n at base count whole =
    let inner = whole_indexed names (v.IndexedPartSelect n at base count) n at base count refl whole in
    ((name_sized n.span (names n.name) (left_nil _ _ (says names (v.IndexedPartSelect n at base count) _ (sense_indexed_part_select names n at base count) whole)), (inner.base, inner.width, inner.narrow)), tt)

fit_both : (names : Names) (ps qs : List Part) → AreFit names ps → AreFit names qs → AreFit names (ps ++ qs)
fit_both names [] qs h k = k
fit_both names (p ∷ ps) qs h k = (h.0, fit_both names ps qs h.1 k)

-- a left side with the proof for it
abbrev Proved : Names → Type 0
Proved names = (x : LeftSide) × Fits names (same_form x) (parts_of x)

abbrev lefts : (names : Names) → List (Proved names) → List LeftSide
lefts names ws = map (λ (w : Proved names). w.0) ws

fits_all : (names : Names) (ws : List (Proved names)) → all_faults (senses names (map same_form (lefts names ws))) ≡ [] → AreFit names (concatenated (map parts_of (lefts names ws)))
fits_all names [] whole = tt
fits_all names (w ∷ ws) whole = fit_both names (parts_of w.0) (concatenated (map parts_of (lefts names ws))) (w.1 (left_nil _ _ whole)) (fits_all names ws (right_nil _ _ whole))

fits_join : (names : Names) (at : Span) (ws : List (Proved names)) → Fits names (v.Concatenation at (map same_form (lefts names ws))) (concatenated (map parts_of (lefts names ws)))
fits_join names at ws whole =
    let es : List Expr = map same_form (lefts names ws) in
    fits_all names ws (whole_join names (v.Concatenation at es) at es refl whole).parts

layer : (names : Names) (y : LeftSide-F (Proved names)) → Fits names (form_step (map-LeftSide LeftSide Expr same_form (map-LeftSide (Proved names) LeftSide (λ (w : Proved names). w.0) y))) (parts_step (map-LeftSide LeftSide (List Part) parts_of (map-LeftSide (Proved names) LeftSide (λ (w : Proved names). w.0) y)))
layer names (l.Name n) = fits_name names n
layer names (l.BitSelect n at i) = fits_bit names n at i
layer names (l.PartSelect n at msb lsb) = fits_range names n at msb lsb
layer names (l.IndexedPartSelect n at base count) = fits_indexed names n at base count
layer names (l.Concatenation at parts) = fits_join names at parts

from_step : (names : Names) (x : LeftSide-F LeftSide) → Fits names (form_step (map-LeftSide LeftSide Expr same_form x)) (parts_step (map-LeftSide LeftSide (List Part) parts_of x)) → Fits names (same_form (roll-LeftSide x)) (parts_of (roll-LeftSide x))
from_step names x h =
    subst (λ (e : Expr). Fits names e (parts_of (roll-LeftSide x))) (sym (fold-roll-LeftSide Expr form_step x))
    (subst (λ (ps : List Part). Fits names (form_step (map-LeftSide LeftSide Expr same_form x)) ps) (sym (fold-roll-LeftSide (List Part) parts_step x)) h)

left_fits : (names : Names) (left : LeftSide) → Fits names (same_form left) (parts_of left)
left_fits names = ind-LeftSide (λ left. Fits names (same_form left) (parts_of left)) (λ x y is. from_step names x (subst (λ (z : LeftSide-F LeftSide). Fits names (form_step (map-LeftSide LeftSide Expr same_form z)) (parts_step (map-LeftSide LeftSide (List Part) parts_of z))) is (layer names y)))

pub sides_fit : SidesFit
sides_fit names a can =
    let w : Bool = has_shape names (same_form a.left) in
    let s : Bool = all_signals names (parts_of a.left) in
    let r : Bool = has_shape names a.value in
    let rest = and_right w (s && r) can in
    (empty_is (sense names a.value).faults (and_right s r rest), left_fits names a.left (empty_is (sense names (same_form a.left)).faults (and_left w (s && r) can)))

-- it can be carried out
pub sides_can : (names : Names) (a : Assignment) → can_assign names a ≡ true → CanAssign names a
sides_can names a can = check_can names a true (sym can) refl
