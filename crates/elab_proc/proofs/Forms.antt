-- Left sides of the same form are the same.
use Rattle.elab_proc.proofs.Common.{◌≡◌, List, [], ◌∷◌, map, refl, sym, ap, ◌∙◌, subst, Span, Expr, out-Expr, out-roll-Expr, Identifier, LeftSide, roll-LeftSide, out-LeftSide, roll-out-LeftSide}
use Rattle.elab_proc.proofs.Common.{LeftSideIsOne, form_step, same_form}
use Rattle.std.proofs.Common.{Option, None, Some}
use Rattle.vlog_syntax.specs.declared.expr.Expr.TheVariants as v
use Rattle.vlog_syntax.specs.declared.expr.Expr.TheOpen as o
use Rattle.vlog_syntax.specs.declared.expr.Expr.TheOpen.{Expr-F}
use Rattle.vlog_syntax.specs.declared.left_side.LeftSide.TheOpen as l
use Rattle.vlog_syntax.specs.declared.left_side.LeftSide.TheOpen.{LeftSide-F}
use Rattle.vlog_syntax.specs.declared.left_side.LeftSide.TheFolds.{fold-roll-LeftSide, ind-LeftSide, map-LeftSide}
use Rattle.std.proofs.lemmas.Option.{same_Some}

-- the form that an expression of a left side has
abbrev form : LeftSide-F Expr → Expr-F Expr
form (l.Name n) = o.Name n
form (l.BitSelect n at i) = o.BitSelect n at i
form (l.PartSelect n at msb lsb) = o.PartSelect n at msb lsb
form (l.IndexedPartSelect n at base width) = o.IndexedPartSelect n at base width
form (l.Concatenation at parts) = o.Concatenation at parts

form-name : (n : Identifier) → out-Expr (v.Name n) ≡ o.Name n
form-name n = ap out-Expr (sym (v.rolls-Name n)) ∙ out-roll-Expr (o.Name n)

form-bit : (n : Identifier) (at : Span) (i : Expr) → out-Expr (v.BitSelect n at i) ≡ o.BitSelect n at i
form-bit n at i = ap out-Expr (sym (v.rolls-BitSelect n at i)) ∙ out-roll-Expr (o.BitSelect n at i)

form-part : (n : Identifier) (at : Span) (msb lsb : Expr) → out-Expr (v.PartSelect n at msb lsb) ≡ o.PartSelect n at msb lsb
form-part n at msb lsb = ap out-Expr (sym (v.rolls-PartSelect n at msb lsb)) ∙ out-roll-Expr (o.PartSelect n at msb lsb)

form-indexed : (n : Identifier) (at : Span) (base width : Expr) → out-Expr (v.IndexedPartSelect n at base width) ≡ o.IndexedPartSelect n at base width
form-indexed n at base width = ap out-Expr (sym (v.rolls-IndexedPartSelect n at base width)) ∙ out-roll-Expr (o.IndexedPartSelect n at base width)

form-concatenation : (at : Span) (parts : List Expr) → out-Expr (v.Concatenation at parts) ≡ o.Concatenation at parts
form-concatenation at parts = ap out-Expr (sym (v.rolls-Concatenation at parts)) ∙ out-roll-Expr (o.Concatenation at parts)

form-of : (y : LeftSide-F Expr) → out-Expr (form_step y) ≡ form y
form-of (l.Name n) = form-name n
form-of (l.BitSelect n at i) = form-bit n at i
form-of (l.PartSelect n at msb lsb) = form-part n at msb lsb
form-of (l.IndexedPartSelect n at base width) = form-indexed n at base width
form-of (l.Concatenation at parts) = form-concatenation at parts

-- the left side that has a form, where there is one
abbrev back : Expr-F Expr → Option (LeftSide-F Expr)
back (o.Name n) = Some (l.Name n)
back (o.BitSelect n at i) = Some (l.BitSelect n at i)
back (o.PartSelect n at msb lsb) = Some (l.PartSelect n at msb lsb)
back (o.IndexedPartSelect n at base width) = Some (l.IndexedPartSelect n at base width)
back (o.Concatenation at parts) = Some (l.Concatenation at parts)
back other = None

back-form : (y : LeftSide-F Expr) → back (form y) ≡ Some y
back-form (l.Name n) = refl
back-form (l.BitSelect n at i) = refl
back-form (l.PartSelect n at msb lsb) = refl
back-form (l.IndexedPartSelect n at base width) = refl
back-form (l.Concatenation at parts) = refl

-- layers of the same expression
step_once : (y z : LeftSide-F Expr) → form_step y ≡ form_step z → y ≡ z
step_once y z e = same_Some y z (sym (back-form y) ∙ ap back (sym (form-of y) ∙ ap out-Expr e ∙ form-of z) ∙ back-form z)

-- no other left side has this one's form
abbrev IsAlone : LeftSide → Type 0
IsAlone left = (other : LeftSide) → same_form left ≡ same_form other → left ≡ other

abbrev Proved : Type 0
Proved = (left : LeftSide) × IsAlone left

abbrev plain : Proved → LeftSide
plain w = w.0

lists_once : (ws : List Proved) (others : List LeftSide) → map same_form (map plain ws) ≡ map same_form others → map plain ws ≡ others
lists_once [] [] e = refl
lists_once [] (y ∷ others) e = absurd cc
lists_once (w ∷ ws) [] e = absurd cc
lists_once (w ∷ ws) (y ∷ others) e =
    let first : same_form w.0 ≡ same_form y = cc in
    let rest : map same_form (map plain ws) ≡ map same_form others = cc in
    ap (λ (z : LeftSide). z ∷ map plain ws) (w.1 y first) ∙ ap (λ (zs : List LeftSide). y ∷ zs) (lists_once ws others rest)

-- what a layer is with the forms of its parts
abbrev formed : LeftSide-F LeftSide → LeftSide-F Expr
formed y = map-LeftSide LeftSide Expr same_form y

abbrev bare : LeftSide-F Proved → LeftSide-F LeftSide
bare y = map-LeftSide Proved LeftSide plain y

layer_once : (y : LeftSide-F Proved) (z : LeftSide-F LeftSide) → formed (bare y) ≡ formed z → bare y ≡ z
layer_once (l.Name n) (l.Name m) e = cc
layer_once (l.BitSelect n at i) (l.BitSelect m to j) e = cc
layer_once (l.PartSelect n at msb lsb) (l.PartSelect m to i j) e = cc
layer_once (l.IndexedPartSelect n at base width) (l.IndexedPartSelect m to i j) e = cc
layer_once (l.Concatenation at parts) (l.Concatenation to others) e =
    let place : at ≡ to = cc in
    let same : map same_form (map plain parts) ≡ map same_form others = cc in
    ap (λ (s : Span). l.Concatenation s (map plain parts)) place ∙ ap (l.Concatenation to) (lists_once parts others same)
layer_once y z e = absurd cc

rolled_once : (y : LeftSide-F LeftSide) → ((z : LeftSide-F LeftSide) → formed y ≡ formed z → y ≡ z) → IsAlone (roll-LeftSide y)
rolled_once y once other e =
    let there : formed y ≡ formed (out-LeftSide other) =
    step_once (formed y) (formed (out-LeftSide other)) (sym (fold-roll-LeftSide Expr form_step y) ∙ e ∙ ap same_form (sym (roll-out-LeftSide other)) ∙ fold-roll-LeftSide Expr form_step (out-LeftSide other)) in
    ap roll-LeftSide (once (out-LeftSide other) there) ∙ roll-out-LeftSide other

alone : (left : LeftSide) → IsAlone left
alone = ind-LeftSide IsAlone (λ z y is. rolled_once z (subst (λ (z : LeftSide-F LeftSide). (w : LeftSide-F LeftSide) → formed z ≡ formed w → z ≡ w) is (layer_once y)))

pub left_once : LeftSideIsOne
left_once left other e = alone left other e
