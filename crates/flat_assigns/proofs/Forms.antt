-- The parts of a left side are those of the expression of the same form.
use Rattle.flat_assigns.proofs.Common.{◌≡◌, List, [], ◌∷◌, map, refl, sym, ap, ◌∙◌, subst, Span, Expr, Identifier, LeftSide, LeftSide-F, roll-LeftSide, fold-roll-LeftSide, ind-LeftSide, map-LeftSide}
use Rattle.flat_assigns.proofs.Common.{Part, Whole, Range, Indexed, concatenated, parts_of, parts_step, same_form, form_step, Form, FormsHaveParts, form, form_parts, formed}
use Rattle.vlog_syntax.specs.declared.expr.Expr.TheOpen as e
use Rattle.vlog_syntax.specs.declared.expr.Expr.TheOpen.{Expr-F}
use Rattle.vlog_syntax.specs.declared.expr.Expr.TheVariants as v
use Rattle.vlog_syntax.specs.declared.expr.Expr.TheViews.{roll-Expr}
use Rattle.vlog_syntax.specs.declared.expr.Expr.TheFolds.{fold-roll-Expr, ind-Expr, map-Expr}
use Rattle.vlog_syntax.specs.declared.left_side.LeftSide.TheOpen as l
use Rattle.vlog_effects.specs.LeftSides.{Bit}

-- The expression of a form is the expression.

abbrev Same : Expr → Type 0
Same x = (form x).expr ≡ x

-- an expression with the proof for it
abbrev Proved : Type 0
Proved = (x : Expr) × Same x

all_same : (ws : List Proved) → map (λ (f : Form). f.expr) (map form (map (λ (w : Proved). w.0) ws)) ≡ map (λ (w : Proved). w.0) ws
all_same [] = refl
all_same (w ∷ more) = rw (w.1, all_same more) refl

layer_same : (y : Expr-F Proved) → map-Expr Form Expr (λ f. f.expr) (map-Expr Expr Form form (map-Expr Proved Expr (λ (w : Proved). w.0) y)) ≡ map-Expr Proved Expr (λ (w : Proved). w.0) y
layer_same (e.Number n) = refl
layer_same (e.Name n) = refl
layer_same (e.BitSelect n s i) = rw (i.1) refl
layer_same (e.PartSelect n s m l) = rw (m.1, l.1) refl
layer_same (e.IndexedPartSelect n s b w) = rw (b.1, w.1) refl
layer_same (e.Parenthesized s i) = rw (i.1) refl
layer_same (e.Unary s op i) = rw (i.1) refl
layer_same (e.Binary s op i j) = rw (i.1, j.1) refl
layer_same (e.Conditional s x i j) = rw (x.1, i.1, j.1) refl
layer_same (e.Concatenation s ps) = rw (all_same ps) refl
layer_same (e.MultipleConcatenation s k ps) = rw (k.1, all_same ps) refl
layer_same (e.SystemFunctionCall n ps) = rw (all_same ps) refl

abbrev IsSame : Expr-F Expr → Type 0
IsSame x = map-Expr Form Expr (λ f. f.expr) (map-Expr Expr Form form x) ≡ x

rolled_same : (x : Expr-F Expr) → IsSame x → Same (roll-Expr x)
rolled_same x h = ap (λ (f : Form). f.expr) (fold-roll-Expr Form formed x) ∙ ap roll-Expr h

own : (x : Expr) → Same x
own = ind-Expr Same (λ x y is. rolled_same x (subst IsSame is (layer_same y)))

-- Each form.

form_name : (n : Identifier) → form_parts (v.Name n) ≡ record { name = n; select = Whole } ∷ []
form_name n = ap form_parts (sym (v.rolls-Name n)) ∙ ap (λ (f : Form). f.parts) (fold-roll-Expr Form formed (e.Name n))

form_bit : (n : Identifier) (at : Span) (i : Expr) → form_parts (v.BitSelect n at i) ≡ record { name = n; select = Bit at i } ∷ []
form_bit n at i =
    let with_index : Expr → List Part = λ z. record { name = n; select = Bit at z } ∷ [] in
    ap form_parts (sym (v.rolls-BitSelect n at i)) ∙ ap (λ (f : Form). f.parts) (fold-roll-Expr Form formed (e.BitSelect n at i)) ∙ ap with_index (own i)

form_range : (n : Identifier) (at : Span) (msb lsb : Expr) → form_parts (v.PartSelect n at msb lsb) ≡ record { name = n; select = Range at msb lsb } ∷ []
form_range n at msb lsb =
    let with_msb : Expr → List Part = λ z. record { name = n; select = Range at z (form lsb).expr } ∷ [] in
    let with_lsb : Expr → List Part = λ z. record { name = n; select = Range at msb z } ∷ [] in
    ap form_parts (sym (v.rolls-PartSelect n at msb lsb)) ∙ ap (λ (f : Form). f.parts) (fold-roll-Expr Form formed (e.PartSelect n at msb lsb)) ∙ ap with_msb (own msb) ∙ ap with_lsb (own lsb)

form_indexed : (n : Identifier) (at : Span) (base count : Expr) → form_parts (v.IndexedPartSelect n at base count) ≡ record { name = n; select = Indexed at base count } ∷ []
form_indexed n at base count =
    let with_base : Expr → List Part = λ z. record { name = n; select = Indexed at z (form count).expr } ∷ [] in
    let with_count : Expr → List Part = λ z. record { name = n; select = Indexed at base z } ∷ [] in
    ap form_parts (sym (v.rolls-IndexedPartSelect n at base count)) ∙ ap (λ (f : Form). f.parts) (fold-roll-Expr Form formed (e.IndexedPartSelect n at base count)) ∙ ap with_base (own base) ∙ ap with_count (own count)

form_concatenation : (at : Span) (xs : List Expr) → form_parts (v.Concatenation at xs) ≡ concatenated (map (λ (f : Form). f.parts) (map form xs))
form_concatenation at xs = ap form_parts (sym (v.rolls-Concatenation at xs)) ∙ ap (λ (f : Form). f.parts) (fold-roll-Expr Form formed (e.Concatenation at xs))

-- Left sides.

abbrev HasParts : LeftSide → Type 0
HasParts left = form_parts (same_form left) ≡ parts_of left

-- a left side with the proof for it
abbrev ProvedLeft : Type 0
ProvedLeft = (x : LeftSide) × HasParts x

all_parts : (ws : List ProvedLeft) → map (λ (f : Form). f.parts) (map form (map same_form (map (λ (w : ProvedLeft). w.0) ws))) ≡ map parts_of (map (λ (w : ProvedLeft). w.0) ws)
all_parts [] = refl
all_parts (w ∷ more) = rw (w.1, all_parts more) refl

abbrev HasSameParts : LeftSide-F LeftSide → Type 0
HasSameParts z = form_parts (form_step (map-LeftSide LeftSide Expr same_form z)) ≡ parts_step (map-LeftSide LeftSide (List Part) parts_of z)

layer_parts : (y : LeftSide-F ProvedLeft) → HasSameParts (map-LeftSide ProvedLeft LeftSide (λ (w : ProvedLeft). w.0) y)
layer_parts (l.Name n) = form_name n
layer_parts (l.BitSelect n at i) = form_bit n at i
layer_parts (l.PartSelect n at msb lsb) = form_range n at msb lsb
layer_parts (l.IndexedPartSelect n at base count) = form_indexed n at base count
layer_parts (l.Concatenation at ws) = form_concatenation at (map same_form (map (λ (w : ProvedLeft). w.0) ws)) ∙ ap concatenated (all_parts ws)

rolled_parts : (x : LeftSide-F LeftSide) → HasSameParts x → HasParts (roll-LeftSide x)
rolled_parts x h = ap form_parts (fold-roll-LeftSide Expr form_step x) ∙ h ∙ sym (fold-roll-LeftSide (List Part) parts_step x)

pub form_is : FormsHaveParts
form_is = ind-LeftSide HasParts (λ x y is. rolled_parts x (subst HasSameParts is (layer_parts y)))
