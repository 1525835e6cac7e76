-- A left side in which nothing is wrong, and whose names are signals, can be written.
use Rattle.tb_assigns.proofs.Common.{◌≡◌, ℕ, ◌+◌, ◌≤◌, List, [], ◌∷◌, ◌++◌, map, Option, Some, None, refl, sym, ap, ◌∙◌, subst, arith, Expr, LeftSide, roll-LeftSide, Names, decl_shape, Sense, sense}
use Rattle.tb_assigns.proofs.Common.{senses, total_width, all_faults, IsWhole, Part, Select, Whole, Bit, Range, Indexed, Vector, vector_of, part_vector, width_by, parts_width, parts_of, parts_step}
use Rattle.tb_assigns.proofs.Common.{select_width, concatenated, same_form, form_step, IsPart, AreParts, NameSignals, WholeSidesSuffice}
use Rattle.mcy_base.specs.declared.span.Span.{Span}
use Rattle.vlog_syntax.specs.declared.identifier.Identifier.{Identifier}
use Rattle.vlog_syntax.specs.declared.expr.Expr.TheVariants as v
use Rattle.vlog_syntax.specs.declared.left_side.LeftSide.TheOpen as l
use Rattle.vlog_syntax.specs.declared.left_side.LeftSide.TheOpen.{LeftSide-F}
use Rattle.vlog_syntax.specs.declared.left_side.LeftSide.TheFolds.{fold-roll-LeftSide, ind-LeftSide, map-LeftSide}
use Rattle.vlog_meaning.specs.declared.scope.Decl.{Decl}
use Rattle.vlog_meaning.specs.declared.scope.Decl.TheVariants.{Signal, Constant}
use Rattle.vlog_meaning.proofs.Blanks.{left_nil, right_nil}
use Rattle.vlog_meaning.proofs.Steps.{sense_name, sense_bit_select, sense_part_select, sense_indexed_part_select, sense_concatenation}
use Rattle.vlog_meaning.proofs.Whole.{whole_name, whole_index, whole_part, whole_indexed, whole_join}

-- the parts can be written, and have as many bits as the expression, at most 128
record Writes (names : Names) (e : Expr) (ps : List Part) : Type 0 where
  pub width : (sense names e).shape.width ≡ parts_width names ps
  pub narrow : (sense names e).shape.width ≤ 128
  pub parts : AreParts names ps

abbrev IsRight : Names → Expr → List Part → Type 0
IsRight names e ps = IsWhole names e → NameSignals names ps → Writes names e ps

-- One part.

width_at : (names : Names) (select : Select) (o : Option Vector) (w : Vector) → o ≡ Some w → width_by names select o ≡ select_width names w select
width_at names select o w e = ap (width_by names select) e

one : (names : Names) (e : Expr) (p : Part) (w : Vector) → (sense names e).shape.width ≡ select_width names w p.select → IsPart names p w → Writes names e (p ∷ [])
one names e p w width c =
    let here = width_at names p.select (part_vector names p) w c.vector in
    let narrow = c.narrow in
    record { width = omega (arith, width, here); narrow = omega (arith, width, narrow); parts = ((w, c), tt) }

pub same_vector : (a b : Vector) → Some a ≡ Some b → a ≡ b
same_vector a b e = cc

named_width : (d : Option Decl) (w : Vector) → vector_of d ≡ Some w → (decl_shape d).width ≡ w.width
named_width (Some (Signal width low is_signed number)) w e = ap (λ (x : Vector). x.width) (same_vector (record { number = number; width = width; low = low }) w e)
named_width (Some (Constant value low is_signed)) w e = absurd cc
named_width None w e = absurd cc

right_name : (names : Names) (n : Identifier) → IsRight names (v.Name n) (record { name = n; select = Whole } ∷ [])
right_name names n whole signals =
    let w = signals.0.0 in
    let is = signals.0.1 in
    let size = whole_name names (v.Name n) n refl whole in
    let same = named_width (names n.name) w is in
    let some = size.some in
    let narrow = size.narrow in
    one names (v.Name n) (record { name = n; select = Whole }) w (ap (λ (x : Sense). x.shape.width) (sense_name names n) ∙ same) (record { vector = is; some = omega (arith, some, same); narrow = omega (arith, narrow, same); whole = tt })

right_bit : (names : Names) (n : Identifier) (at : Span) (i : Expr) → IsRight names (v.BitSelect n at i) (record { name = n; select = Bit at i } ∷ [])
right_bit names n at i whole signals =
    one names (v.BitSelect n at i) (record { name = n; select = Bit at i }) signals.0.0 (ap (λ (x : Sense). x.shape.width) (sense_bit_select names n at i)) (record { vector = signals.0.1; some = omega arith; narrow = omega arith; whole = whole_index names (v.BitSelect n at i) n at i refl whole })

right_range : (names : Names) (n : Identifier) (at : Span) (msb lsb : Expr) → IsRight names (v.PartSelect n at msb lsb) (record { name = n; select = Range at msb lsb } ∷ [])
right_range names n at msb lsb whole signals =
    let inner = whole_part names (v.PartSelect n at msb lsb) n at msb lsb refl whole in
    one names (v.PartSelect n at msb lsb) (record { name = n; select = Range at msb lsb }) signals.0.0 (ap (λ (x : Sense). x.shape.width) (sense_part_select names n at msb lsb)) (record { vector = signals.0.1; some = inner.some; narrow = inner.narrow; whole = (inner.msb, inner.lsb) })

right_indexed : (names : Names) (n : Identifier) (at : Span) (base count : Expr) → IsRight names (v.IndexedPartSelect n at base count) (record { name = n; select = Indexed at base count } ∷ [])
right_indexed names n at base count whole signals =
    let inner = whole_indexed names (v.IndexedPartSelect n at base count) n at base count refl whole in
    one names (v.IndexedPartSelect n at base count) (record { name = n; select = Indexed at base count }) signals.0.0 (ap (λ (x : Sense). x.shape.width) (sense_indexed_part_select names n at base count)) (record { vector = signals.0.1; some = inner.some; narrow = inner.narrow; whole = (inner.base, inner.width) })

-- Parts one after the other.

pub width_both : (names : Names) (ps qs : List Part) → parts_width names (ps ++ qs) ≡ parts_width names ps + parts_width names qs
width_both names [] qs = omega arith
width_both names (p ∷ ps) qs = let rest = width_both names ps qs in omega (arith, rest)

parts_both : (names : Names) (ps qs : List Part) → AreParts names ps → AreParts names qs → AreParts names (ps ++ qs)
parts_both names [] qs h k = k
parts_both names (p ∷ ps) qs h k = (h.0, parts_both names ps qs h.1 k)

signals_left : (names : Names) (ps qs : List Part) → NameSignals names (ps ++ qs) → NameSignals names ps
signals_left names [] qs h = tt
signals_left names (p ∷ ps) qs h = (h.0, signals_left names ps qs h.1)

signals_right : (names : Names) (ps qs : List Part) → NameSignals names (ps ++ qs) → NameSignals names qs
signals_right names [] qs h = h
signals_right names (p ∷ ps) qs h = signals_right names ps qs h.1

sum_width : (a b c d e : ℕ) → a ≡ c → b ≡ d → e ≡ c + d → a + b ≡ e
sum_width a b c d e f g h = omega arith

-- a left side with the proof for it
abbrev Proved : Names → Type 0
Proved names = (x : LeftSide) × IsRight names (same_form x) (parts_of x)

abbrev plain : (names : Names) → Proved names → LeftSide
plain names w = w.0

abbrev lefts : (names : Names) → List (Proved names) → List LeftSide
lefts names ws = map (plain names) ws

-- what several say together
record Join (names : Names) (es : List Expr) (ps : List Part) : Type 0 where
  pub width : total_width (senses names es) ≡ parts_width names ps
  pub parts : AreParts names ps

joins : (names : Names) (ws : List (Proved names)) → all_faults (senses names (map same_form (lefts names ws))) ≡ [] → NameSignals names (concatenated (map parts_of (lefts names ws))) → Join names (map same_form (lefts names ws)) (concatenated (map parts_of (lefts names ws)))
joins names [] whole signals = record { width = refl; parts = tt }
joins names (w ∷ ws) whole signals =
    let ps : List Part = parts_of w.0 in
    let qs : List Part = concatenated (map parts_of (lefts names ws)) in
    let es : List Expr = map same_form (lefts names ws) in
    let here : Writes names (same_form w.0) ps = w.1 (left_nil _ _ whole) (signals_left names ps qs signals) in
    let more : Join names es qs = joins names ws (right_nil _ _ whole) (signals_right names ps qs signals) in
    record {
      width = sum_width (sense names (same_form w.0)).shape.width (total_width (senses names es)) (parts_width names ps) (parts_width names qs) (parts_width names (ps ++ qs)) here.width more.width (width_both names ps qs);
      parts = parts_both names ps qs here.parts more.parts;
    }

right_join : (names : Names) (at : Span) (ws : List (Proved names)) → IsRight names (v.Concatenation at (map same_form (lefts names ws))) (concatenated (map parts_of (lefts names ws)))
right_join names at ws whole signals =
    let es : List Expr = map same_form (lefts names ws) in
    let e : Expr = v.Concatenation at es in
    let facts = whole_join names e at es refl whole in
    let j = joins names ws facts.parts signals in
    let width : (sense names e).shape.width ≡ total_width (senses names es) = ap (λ (x : Sense). x.shape.width) (sense_concatenation names at es) in
    let narrow = facts.narrow in
    record { width = width ∙ j.width; narrow = omega (arith, width, narrow); parts = j.parts }

layer : (names : Names) (y : LeftSide-F (Proved names)) → IsRight names (form_step (map-LeftSide LeftSide Expr same_form (map-LeftSide (Proved names) LeftSide (plain names) y))) (parts_step (map-LeftSide LeftSide (List Part) parts_of (map-LeftSide (Proved names) LeftSide (plain names) y)))
layer names (l.Name n) = right_name names n
layer names (l.BitSelect n at i) = right_bit names n at i
layer names (l.PartSelect n at msb lsb) = right_range names n at msb lsb
layer names (l.IndexedPartSelect n at base count) = right_indexed names n at base count
layer names (l.Concatenation at parts) = right_join names at parts

-- what holds of the step holds of the left side
from_step : (names : Names) (x : LeftSide-F LeftSide) → IsRight names (form_step (map-LeftSide LeftSide Expr same_form x)) (parts_step (map-LeftSide LeftSide (List Part) parts_of x)) → IsRight names (same_form (roll-LeftSide x)) (parts_of (roll-LeftSide x))
from_step names x h =
    subst (λ (e : Expr). IsRight names e (parts_of (roll-LeftSide x))) (sym (fold-roll-LeftSide Expr form_step x))
    (subst (λ (ps : List Part). IsRight names (form_step (map-LeftSide LeftSide Expr same_form x)) ps) (sym (fold-roll-LeftSide (List Part) parts_step x)) h)

left_writes : (names : Names) (left : LeftSide) → IsRight names (same_form left) (parts_of left)
left_writes names = ind-LeftSide (λ left. IsRight names (same_form left) (parts_of left)) (λ x y is. from_step names x (subst (λ (z : LeftSide-F LeftSide). IsRight names (form_step (map-LeftSide LeftSide Expr same_form z)) (parts_step (map-LeftSide LeftSide (List Part) parts_of z))) is (layer names y)))

pub sides_suffice : WholeSidesSuffice
sides_suffice names a whole signals right =
    let w = left_writes names a.left whole signals in
    let width = w.width in
    let narrow = w.narrow in
    record { parts = w.parts; narrow = omega (arith, width, narrow); right = right }
