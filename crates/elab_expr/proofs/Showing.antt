-- What an operator lays, from what the calls below it tell.
use Rattle.elab_expr.proofs.Common.{◌≡◌, ℕ, ◌<◌, ◌≤◌, ◌&&◌, Bool, true, false, List, [], ◌∷◌, refl, sym, ap, ◌∙◌, arith, nat_tests, Option, Some, None, if◌then◌else◌, Span, Bit, CellKind, Ror, Pick}
use Rattle.elab_expr.proofs.Common.{UnaryOperator, BinaryOperator, Decl, Shape, sizing, result_width, is_reduction, Building, fresh_bits, with_cell, unary_kind, binary_kind, is_order, showing, cell}
use Rattle.elab_expr.proofs.Common.{at_width, widened, name_bits, unary_cell, binary_cell, reduced}
use Rattle.std.specs.Prelude.{nat_lt}

pub both_shown : (n m : Building) (y z : List Bit) → n ≡ m → y ≡ z → showing n y ≡ showing m z
both_shown n m y z is same = ap (λ (b : Building). showing b y) is ∙ ap (showing m) same

-- the same at a width
pub wide_shown : (n m : Building) (y z found : List Bit) (width : ℕ) → n ≡ m → y ≡ z → found ≡ widened y false width → showing n found ≡ at_width width (showing m z)
wide_shown n m y z found width is same wide = both_shown n m found (widened z false width) is (wide ∙ ap (λ (l : List Bit). widened l false width) same)

pub unary_shown : (b n : Building) (op : UnaryOperator) (kind : CellKind) (at : Shape) (a y found : List Bit) (width : ℕ) (span : Span) → unary_kind op ≡ Some kind → y ≡ fresh_bits b.nets (if is_reduction op then 1 else at.width) → n ≡ with_cell b kind false (a ∷ []) (if is_reduction op then 1 else at.width) span → found ≡ widened y false width → showing n found ≡ at_width width (unary_cell (unary_kind op) (if is_reduction op then 1 else at.width) span (showing b a))
unary_shown b n op kind at a y found width span is fresh adds wide = wide_shown n _ y _ found width adds fresh wide ∙ sym (ap (λ (k : Option CellKind). at_width width (unary_cell k (if is_reduction op then 1 else at.width) span (showing b a))) is)

pub plus_shown : (b : Building) (op : UnaryOperator) (at : Shape) (a found : List Bit) (width : ℕ) (span : Span) → unary_kind op ≡ None → found ≡ widened a false width → showing b found ≡ at_width width (unary_cell (unary_kind op) (if is_reduction op then 1 else at.width) span (showing b a))
plus_shown b op at a found width span is wide = wide_shown b b a a found width refl refl wide ∙ sym (ap (λ (k : Option CellKind). at_width width (unary_cell k (if is_reduction op then 1 else at.width) span (showing b a))) is)

pub binary_shown : (b n : Building) (op : BinaryOperator) (kind : CellKind) (left : Shape) (a c y found : List Bit) (width : ℕ) (span : Span) → binary_kind op left.is_signed ≡ Some kind → y ≡ fresh_bits b.nets (result_width (sizing op) left) → n ≡ with_cell b kind (is_order kind && left.is_signed) (a ∷ c ∷ []) (result_width (sizing op) left) span → found ≡ widened y false width → showing n found ≡ at_width width (binary_cell (binary_kind op left.is_signed) left (result_width (sizing op) left) span a (showing b c))
binary_shown b n op kind left a c y found width span is fresh adds wide = wide_shown n _ y _ found width adds fresh wide ∙ sym (ap (λ (k : Option CellKind). at_width width (binary_cell k left (result_width (sizing op) left) span a (showing b c))) is)

pub ror_shown : (b n : Building) (a y : List Bit) (width : ℕ) (span : Span) → 1 < width → y ≡ fresh_bits b.nets 1 → n ≡ with_cell b Ror false (a ∷ []) 1 span → showing n y ≡ reduced width span (showing b a)
ror_shown b n a y width span wide fresh adds =
    let test : nat_lt 1 width ≡ true = grind (arith, nat_tests) in
    both_shown n _ y _ adds fresh ∙ sym (ap (λ (k : Bool). if k then cell Ror false (a ∷ []) 1 span b else showing b a) test)

pub bit_shown : (b : Building) (a : List Bit) (width : ℕ) (span : Span) → width ≤ 1 → showing b a ≡ reduced width span (showing b a)
bit_shown b a width span narrow =
    let test : nat_lt 1 width ≡ false = grind (arith, nat_tests) in
    sym (ap (λ (k : Bool). if k then cell Ror false (a ∷ []) 1 span b else showing b a) test)

pub picked_shown : (b n : Building) (a index at y : List Bit) (size width : ℕ) (span : Span) (d : Option Decl) → a ≡ name_bits b d → at ≡ index → showing n y ≡ at_width width (cell Pick false (a ∷ at ∷ []) size span b) → showing n y ≡ at_width width (cell Pick false (name_bits b d ∷ index ∷ []) size span b)
picked_shown b n a index at y size width span d is is_at laid = laid ∙ ap (λ (l : List Bit). at_width width (cell Pick false (l ∷ at ∷ []) size span b)) is ∙ ap (λ (l : List Bit). at_width width (cell Pick false (name_bits b d ∷ l ∷ []) size span b)) is_at
