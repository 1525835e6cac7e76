-- The parts of a left side can be told where nothing is wrong with the assign.
use Rattle.tb_apart.proofs.Common.{◌≡◌, true, List, [], ◌∷◌, ◌++◌, map, refl, sym, ap, subst, None, flat_map, Span, LeftSide, Fault, Names, sense, senses, all_faults, assigned, is_empty, IsWhole}
use Rattle.tb_apart.proofs.Common.{Select, Whole, Bit, Range, Indexed, Part, parts_of, parts_step, concatenated, same_form, form_step, divisions, index_faults, Wrong, part_indices, indices_faults}
use Rattle.tb_apart.proofs.Common.{net_wrong, net_faults, assign_faults, is_placed, form_of, is_told, and_from}
use Rattle.vlog_syntax.specs.declared.expr.Expr.{Expr}
use Rattle.vlog_syntax.specs.declared.expr.Expr.TheVariants as v
use Rattle.vlog_syntax.specs.declared.left_side.LeftSide.TheOpen as l
use Rattle.vlog_syntax.specs.declared.left_side.LeftSide.TheOpen.{LeftSide-F}
use Rattle.vlog_syntax.specs.declared.left_side.LeftSide.TheViews.{roll-LeftSide}
use Rattle.vlog_syntax.specs.declared.left_side.LeftSide.TheFolds.{fold-roll-LeftSide, ind-LeftSide, map-LeftSide}
use Rattle.vlog_meaning.proofs.Blanks.{left_nil, right_nil, these_nil}
use Rattle.vlog_meaning.proofs.Whole.{whole_join}
use Rattle.vlog_effects.specs.Expressions.{width_of}
use Rattle.tb_checks.specs.Lefts.{part_faults}

-- The expression of each part has a shape where that of the left side has one.

abbrev AreWhole : Names → List Part → Type 0
AreWhole names [] = Unit {0}
AreWhole names (p ∷ ps) = IsWhole names (form_of p) × AreWhole names ps

abbrev HasWhole : Names → Expr → List Part → Type 0
HasWhole names x ps = IsWhole names x → AreWhole names ps

whole_both : (names : Names) (ps qs : List Part) → AreWhole names ps → AreWhole names qs → AreWhole names (ps ++ qs)
whole_both names [] qs h k = k
whole_both names (p ∷ ps) qs h k = (h.0, whole_both names ps qs h.1 k)

-- a left side with the proof for it
abbrev Proved : Names → Type 0
Proved names = (x : LeftSide) × HasWhole names (same_form x) (parts_of x)

abbrev lefts : (names : Names) → List (Proved names) → List LeftSide
lefts names ws = map (λ (w : Proved names). w.0) ws

whole_all : (names : Names) (ws : List (Proved names)) → all_faults (senses names (map same_form (lefts names ws))) ≡ [] → AreWhole names (concatenated (map parts_of (lefts names ws)))
whole_all names [] whole = tt
whole_all names (w ∷ ws) whole = whole_both names (parts_of w.0) (concatenated (map parts_of (lefts names ws))) (w.1 (left_nil _ _ whole)) (whole_all names ws (right_nil _ _ whole))

whole_parts : (names : Names) (at : Span) (ws : List (Proved names)) → HasWhole names (v.Concatenation at (map same_form (lefts names ws))) (concatenated (map parts_of (lefts names ws)))
whole_parts names at ws whole =
    let es : List Expr = map same_form (lefts names ws) in
    whole_all names ws (whole_join names (v.Concatenation at es) at es refl whole).parts

layer : (names : Names) (y : LeftSide-F (Proved names)) → HasWhole names (form_step (map-LeftSide LeftSide Expr same_form (map-LeftSide (Proved names) LeftSide (λ (w : Proved names). w.0) y))) (parts_step (map-LeftSide LeftSide (List Part) parts_of (map-LeftSide (Proved names) LeftSide (λ (w : Proved names). w.0) y)))
layer names (l.Name n) = λ whole. (whole, tt)
layer names (l.BitSelect n at i) = λ whole. (whole, tt)
layer names (l.PartSelect n at msb lsb) = λ whole. (whole, tt)
layer names (l.IndexedPartSelect n at base count) = λ whole. (whole, tt)
layer names (l.Concatenation at parts) = whole_parts names at parts

from_step : (names : Names) (x : LeftSide-F LeftSide) → HasWhole names (form_step (map-LeftSide LeftSide Expr same_form x)) (parts_step (map-LeftSide LeftSide (List Part) parts_of x)) → HasWhole names (same_form (roll-LeftSide x)) (parts_of (roll-LeftSide x))
from_step names x h =
    subst (λ (e : Expr). HasWhole names e (parts_of (roll-LeftSide x))) (sym (fold-roll-LeftSide Expr form_step x))
    (subst (λ (ps : List Part). HasWhole names (form_step (map-LeftSide LeftSide Expr same_form x)) ps) (sym (fold-roll-LeftSide (List Part) parts_step x)) h)

left_whole : (names : Names) (left : LeftSide) → HasWhole names (same_form left) (parts_of left)
left_whole names = ind-LeftSide (λ left. HasWhole names (same_form left) (parts_of left)) (λ x y is. from_step names x (subst (λ (z : LeftSide-F LeftSide). HasWhole names (form_step (map-LeftSide LeftSide Expr same_form z)) (parts_step (map-LeftSide LeftSide (List Part) parts_of z))) is (layer names y)))

-- Each part can be told where its place is a constant besides.

abbrev pub AreTold : Names → List Part → Type 0
AreTold names [] = Unit {0}
AreTold names (p ∷ ps) = (is_told names p ≡ true) × AreTold names ps

placed : (names : Names) (s : Select) → index_faults names s ≡ [] → is_placed names s ≡ true
placed names Whole e = refl
placed names (Bit at i) e = ap is_empty e
placed names (Range at msb lsb) e = refl
placed names (Indexed at base count) e = ap is_empty e

told_all : (names : Names) (ps : List Part) → AreWhole names ps → flat_map (part_indices names) ps ≡ [] → AreTold names ps
told_all names [] whole none = tt
told_all names (p ∷ ps) whole none =
    let here : part_indices names p ≡ [] = left_nil (part_indices names p) (flat_map (part_indices names) ps) none in
    let told : is_told names p ≡ true = and_from (is_placed names p.select) (is_empty (sense names (form_of p)).faults) (placed names p.select here) (ap is_empty whole.0) in
    (told, told_all names ps whole.1 (right_nil (part_indices names p) (flat_map (part_indices names) ps) none))

none_wrong : (xs : List Fault) → map Wrong xs ≡ [] → xs ≡ []
none_wrong [] e = refl
none_wrong (x ∷ xs) e = absurd cc

pub told_parts : (names : Names) (left : LeftSide) (value : Expr) → assign_faults names left value ≡ [] → AreTold names (parts_of left)
told_parts names left value none =
    let form : Expr = same_form left in
    let wrongs : List Fault = ((sense names form).faults ++ indices_faults names left) ++ net_wrong names value in
    let sides : net_faults names form left value ≡ [] = none_wrong (net_faults names form left value) (left_nil (map Wrong (net_faults names form left value)) (flat_map (part_faults names None) (parts_of left)) none) in
    let all : wrongs ≡ [] = these_nil wrongs (divisions ((sense names value).zeros (assigned (sense names value) (width_of names form)))) sides in
    let left_none : (sense names form).faults ++ indices_faults names left ≡ [] = left_nil ((sense names form).faults ++ indices_faults names left) (net_wrong names value) all in
    told_all names (parts_of left) (left_whole names left (left_nil (sense names form).faults (indices_faults names left) left_none)) (right_nil (sense names form).faults (indices_faults names left) left_none)
