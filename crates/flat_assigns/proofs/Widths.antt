-- A left side has as many bits as the expression of the same form.
use Rattle.flat_assigns.proofs.Common.{◌≡◌, List, [], ◌∷◌, ◌++◌, map, length, Option, Some, None, refl, sym, ap, ◌∙◌, subst, arith, append_assoc, flat_map, append-nil, length-append, length-map}
use Rattle.flat_assigns.proofs.Common.{flat_map-append, Expr, LeftSide, LeftSide-F, roll-LeftSide, fold-roll-LeftSide, ind-LeftSide, map-LeftSide, Names, nothing, Sense, sense, senses, total_width}
use Rattle.flat_assigns.proofs.Common.{all_faults, left_nil, right_nil, these_nil, Part, Whole, Range, Indexed, Vector, concatenated, part_vector, parts_of, parts_step, places, select_base}
use Rattle.flat_assigns.proofs.Common.{select_width, length-bits_from, same_form, form_step, Place, Slice, all_places, left_faults, left_places, left_width, own_slices, part_faults, part_form}
use Rattle.flat_assigns.proofs.Common.{part_slices, placed, slice_places, slices, target_faults, vector_slices}
use Rattle.vlog_syntax.specs.declared.left_side.LeftSide.TheOpen as l
use Rattle.vlog_meaning.proofs.Steps.{sense_concatenation}
use Rattle.vlog_effects.specs.LeftSides.{Bit}
use Rattle.flat_assigns.proofs.Kept.{names_vector, size_is}

-- where nothing is wrong with an expression and with parts, they have as many bits
abbrev IsWide : Names → Expr → List Part → Type 0
IsWide names e ps = (sense names e).faults ≡ [] → flat_map (target_faults names) ps ≡ [] → (sense names e).shape.width ≡ length (all_places (slices names ps))

abbrev Wide : Names → LeftSide → Type 0
Wide names left = IsWide names (same_form left) (parts_of left)

-- a left side with the proof for it
abbrev Proved : Names → Type 0
Proved names = (x : LeftSide) × Wide names x

long_part : (names : Names) (p : Part) (o : Option Vector) (v : Vector) → o ≡ Some v → length (all_places (vector_slices names p o)) ≡ select_width names v p.select
long_part names p None v e = absurd cc
long_part names p (Some w) v e =
    let same : w ≡ v = cc in
    length-map (places names nothing w p.select) (placed w.number) ∙ length-bits_from w (select_base names nothing w p.select) (select_width names w p.select) ∙ ap (λ (x : Vector). select_width names x p.select) same

part_wide : (names : Names) (p : Part) → IsWide names (part_form p) (p ∷ [])
part_wide names p whole targets =
    let target = sym (append-nil (target_faults names p)) ∙ targets in
    let free : part_faults names p ≡ [] = ap (λ l. l ++ target_faults names p) whole ∙ target in
    let v = names_vector names p free in
    let long = ap (λ (l : List Slice). length (all_places l)) (append-nil (own_slices names p) ∙ ap (part_slices names p) free) ∙ long_part names p (part_vector names p) v.0 v.1 in
    size_is names p.name p.select v.0 v.1 ∙ sym long

places_append : (xs ys : List Slice) → all_places (xs ++ ys) ≡ all_places ys ++ all_places xs
places_append [] ys = sym (append-nil (all_places ys))
places_append (x ∷ xs) ys = ap (λ (l : List (Option Place)). l ++ slice_places x) (places_append xs ys) ∙ append_assoc (all_places ys) (all_places xs) (slice_places x)

joined_wide : (names : Names) (ws : List (Proved names)) → all_faults (senses names (map same_form (map (λ (w : Proved names). w.0) ws))) ≡ [] → flat_map (target_faults names) (concatenated (map parts_of (map (λ (w : Proved names). w.0) ws))) ≡ []
    → total_width (senses names (map same_form (map (λ (w : Proved names). w.0) ws))) ≡ length (all_places (slices names (concatenated (map parts_of (map (λ (w : Proved names). w.0) ws)))))
joined_wide names [] whole targets = refl
joined_wide names (w ∷ ws) whole targets =
    let es : List Expr = map same_form (map (λ (w : Proved names). w.0) ws) in
    let ps : List Part = parts_of w.0 in
    let qs : List Part = concatenated (map parts_of (map (λ (w : Proved names). w.0) ws)) in
    let apart = sym (flat_map-append (target_faults names) ps qs) ∙ targets in
    let here = w.1 (left_nil (sense names (same_form w.0)).faults (all_faults (senses names es)) whole) (left_nil (flat_map (target_faults names) ps) (flat_map (target_faults names) qs) apart) in
    let more = joined_wide names ws (right_nil (sense names (same_form w.0)).faults (all_faults (senses names es)) whole) (right_nil (flat_map (target_faults names) ps) (flat_map (target_faults names) qs) apart) in
    let both = ap length (ap all_places (flat_map-append (own_slices names) ps qs) ∙ places_append (slices names ps) (slices names qs)) in
    let sum = length-append (all_places (slices names qs)) (all_places (slices names ps)) in
    omega (arith, here, more, both, sum)

layer : (names : Names) (y : LeftSide-F (Proved names)) → IsWide names (form_step (map-LeftSide LeftSide Expr same_form (map-LeftSide (Proved names) LeftSide (λ (w : Proved names). w.0) y))) (parts_step (map-LeftSide LeftSide (List Part) parts_of (map-LeftSide (Proved names) LeftSide (λ (w : Proved names). w.0) y)))
layer names (l.Name n) = part_wide names (record { name = n; select = Whole })
layer names (l.BitSelect n at i) = part_wide names (record { name = n; select = Bit at i })
layer names (l.PartSelect n at msb lsb) = part_wide names (record { name = n; select = Range at msb lsb })
layer names (l.IndexedPartSelect n at base count) = part_wide names (record { name = n; select = Indexed at base count })
layer names (l.Concatenation at parts) = λ whole targets.
    let is = sense_concatenation names at (map same_form (map (λ (w : Proved names). w.0) parts)) in
    ap (λ (x : Sense). x.shape.width) is ∙ joined_wide names parts (these_nil _ _ (sym (ap (λ (x : Sense). x.faults) is) ∙ whole)) targets

-- what holds of the step holds of the left side
from_step : (names : Names) (x : LeftSide-F LeftSide) → IsWide names (form_step (map-LeftSide LeftSide Expr same_form x)) (parts_step (map-LeftSide LeftSide (List Part) parts_of x)) → Wide names (roll-LeftSide x)
from_step names x h =
    subst (λ (e : Expr). IsWide names e (parts_of (roll-LeftSide x))) (sym (fold-roll-LeftSide Expr form_step x))
    (subst (λ (ps : List Part). IsWide names (form_step (map-LeftSide LeftSide Expr same_form x)) ps) (sym (fold-roll-LeftSide (List Part) parts_step x)) h)

wide : (names : Names) (left : LeftSide) → Wide names left
wide names = ind-LeftSide (Wide names) (λ x y is. from_step names x (subst (λ (z : LeftSide-F LeftSide). IsWide names (form_step (map-LeftSide LeftSide Expr same_form z)) (parts_step (map-LeftSide LeftSide (List Part) parts_of z))) is (layer names y)))

pub places_wide : (names : Names) (left : LeftSide) → left_faults names left ≡ [] → length (left_places names left) ≡ left_width names left
places_wide names left free =
    sym (wide names left (left_nil (sense names (same_form left)).faults (flat_map (target_faults names) (parts_of left)) free) (right_nil (sense names (same_form left)).faults (flat_map (target_faults names) (parts_of left)) free))
