-- What one operator adds, in plain variables.
use Rattle.elab_expr.proofs.Common.{◌≡◌, ℕ, zero, suc, ◌<◌, ◌≤◌, ◌^◌, ◌&&◌, ◌==◌, ◌-ℤ◌, ℤ, pos, Bool, true, false, not, nat_lt, List, [], ◌∷◌, ◌++◌, length, refl, sym, ◌∙◌, ap, subst, arith, Option}
use Rattle.elab_expr.proofs.Common.{None, Some, if◌then◌else◌, nat_tests, Span, Bit, CellKind, Mux, Pick, Ror, number, Nets, values, widths, shape_of, HasWidths, AllWide, UnaryOperator}
use Rattle.elab_expr.proofs.Common.{BinaryOperator, Decl, Sizing, Shape, extended, window, IsSized, ArePaired, digit, sizing, result_width, is_reduction, unary_value, binary_value, decl_low}
use Rattle.elab_expr.proofs.Common.{decl_shape, decl_value, taken, extended_positive, Building, RunsIn, AllBelow, PortsBelow, fresh_bits, with_cell, store, Adds, Holds, unary_kind, binary_kind}
use Rattle.elab_expr.proofs.Common.{is_order, Made, cell_of, ShapeOfBits, grows_not, length_fresh}
use Rattle.vlog_syntax.specs.declared.operator.UnaryOperator.TheVariants as u
use Rattle.vlog_syntax.specs.declared.operator.BinaryOperator.TheVariants as b
use Rattle.vlog_meaning.specs.declared.operator.Sizing.TheVariants.{Common, Left, Compared, Apart}
use Rattle.elab_expr.proofs.Bits.{number-fits}
use Rattle.elab_expr.proofs.Growing.{adds_cell, widened, none_made}
use Rattle.elab_expr.proofs.NodeLemmas.{unary_widths, binary_widths}

-- what the extension of bits with zeros is
abbrev pub IsExtended : List Bit → List Bit → ℕ → Type 0
IsExtended y z v = (nets : Nets) → number (values nets z) ≡ extended (ShapeOfBits y false) v (number (values nets y))

-- a cell, and zeros above its Y
pub wide_cell : (o n : Building) (kind : CellKind) (signed : Bool) (ports : List (List Bit)) (w v : ℕ) (span : Span) (y z : List Bit) (f : Nets → ℕ) (ws : List ℕ) → widths ports ≡ ws → HasWidths (shape_of kind) (ws ++ w ∷ []) → AllWide ports → 1 ≤ w → w ≤ v → v ≤ 128 → PortsBelow o.nets ports → y ≡ fresh_bits o.nets w → n ≡ with_cell o kind signed ports w span → ((nets : Nets) → RunsIn n nets → number (values nets y) ≡ f nets) → length z ≡ v → IsExtended y z v → ((k : ℕ) → AllBelow k y → AllBelow k z) → Adds o n z v f (record { kind = kind; is_signed = signed; widths = ws ++ w ∷ []; span = span } ∷ [])
wide_cell o n kind signed ports w v span y z f ws is_ws shape wide some le narrow below is_y is value long same kept =
    let M : List Made = record { kind = kind; is_signed = signed; widths = ws ++ w ∷ []; span = span } ∷ [] in
    let a : Adds o n y w f M = adds_cell o n kind signed ports w span y f ws is_ws shape wide some (omega (arith, le, narrow)) below is_y is value in
    widened o n y z w v f M a le long same (kept n.nets a.below)

some_width : (reduces : Bool) (w : ℕ) → 1 ≤ w → 1 ≤ (if reduces then 1 else w)
some_width true w h = omega arith
some_width false w h = h

and_false : (b : Bool) → b && false ≡ false
and_false true = refl
and_false false = refl

pub unary_adds : (o n : Building) (op : UnaryOperator) (kind : CellKind) (at : Shape) (a y z : List Bit) (v : ℕ) (span : Span) → unary_kind op ≡ Some kind → IsSized at → length a ≡ at.width → AllBelow o.nets a → (if is_reduction op then 1 else at.width) ≤ v → v ≤ 128 → y ≡ fresh_bits o.nets (if is_reduction op then 1 else at.width) → n ≡ with_cell o kind false (a ∷ []) (if is_reduction op then 1 else at.width) span → ((nets : Nets) → RunsIn n nets → number (values nets y) ≡ unary_value op at (number (values nets a))) → length z ≡ v → IsExtended y z v → ((k : ℕ) → AllBelow k y → AllBelow k z) → Adds o n z v (λ nets. unary_value op at (number (values nets a))) (cell_of (unary_kind op) false (at.width ∷ (if is_reduction op then 1 else at.width) ∷ []) span)
unary_adds o n op kind at a y z v span k sized long_a below le narrow is_y is value long same kept =
    let w : ℕ = if is_reduction op then 1 else at.width in
    let ws : List ℕ = at.width ∷ w ∷ [] in
    let f : Nets → ℕ = λ nets. unary_value op at (number (values nets a)) in
    let one : Adds o n z v f (record { kind = kind; is_signed = false; widths = ws; span = span } ∷ []) =
    wide_cell o n kind false (a ∷ []) w v span y z f (at.width ∷ []) (ap (λ (m : ℕ). m ∷ []) long_a) (unary_widths op kind at.width k) (omega (arith, long_a, sized.some), omega (arith, long_a, sized.narrow), tt) (some_width (is_reduction op) at.width sized.some) le narrow (below, tt) is_y is value long same kept in
    subst (λ (o' : Option CellKind). Adds o n z v f (cell_of o' false ws span)) (sym k) (subst (λ (s : Bool). Adds o n z v f (record { kind = kind; is_signed = s; widths = ws; span = span } ∷ [])) (sym (and_false (is_order kind))) one)

-- unary `+` adds nothing
pub plus_adds : (o : Building) (op : UnaryOperator) (at : Shape) (a z : List Bit) (v : ℕ) (span : Span) → unary_kind op ≡ None → length a ≡ at.width → AllBelow o.nets a → (if is_reduction op then 1 else at.width) ≤ v → length z ≡ v → IsExtended a z v → ((k : ℕ) → AllBelow k a → AllBelow k z) → Adds o o z v (λ nets. unary_value op at (number (values nets a))) (cell_of (unary_kind op) false (at.width ∷ (if is_reduction op then 1 else at.width) ∷ []) span)
plus_adds o u.Plus at a z v span k long_a below le long same kept =
    widened o o a z at.width v (λ nets. number (values nets a)) [] (record { grows = grows_not o; cells = none_made o; long = long_a; below = below; value_is = λ nets runs. refl }) le long same (kept o.nets below)
plus_adds o u.Minus at a z v span k long_a below le long same kept = cc
plus_adds o u.BitwiseNot at a z v span k long_a below le long same kept = cc
plus_adds o u.LogicalNot at a z v span k long_a below le long same kept = cc
plus_adds o u.ReductionAnd at a z v span k long_a below le long same kept = cc
plus_adds o u.ReductionNand at a z v span k long_a below le long same kept = cc
plus_adds o u.ReductionOr at a z v span k long_a below le long same kept = cc
plus_adds o u.ReductionNor at a z v span k long_a below le long same kept = cc
plus_adds o u.ReductionXor at a z v span k long_a below le long same kept = cc
plus_adds o u.ReductionXnor at a z v span k long_a below le long same kept = cc

some_result : (r : Sizing) (s : Shape) → 1 ≤ s.width → 1 ≤ result_width r s
some_result Common s h = h
some_result Left s h = h
some_result Compared s h = omega arith
some_result Apart s h = omega arith

two_widths : (a b : List Bit) (s t : ℕ) → length a ≡ s → length b ≡ t → widths (a ∷ b ∷ []) ≡ s ∷ t ∷ []
two_widths a b s t la lb = ap (λ (m : ℕ). m ∷ length b ∷ []) la ∙ ap (λ (m : ℕ). s ∷ m ∷ []) lb

pub binary_adds : (o n : Building) (op : BinaryOperator) (kind : CellKind) (s t : Shape) (a b y z : List Bit) (v : ℕ) (span : Span) → binary_kind op s.is_signed ≡ Some kind → IsSized s → IsSized t → ArePaired (sizing op) s t → length a ≡ s.width → length b ≡ t.width → AllBelow o.nets a → AllBelow o.nets b → result_width (sizing op) s ≤ v → v ≤ 128 → y ≡ fresh_bits o.nets (result_width (sizing op) s) → n ≡ with_cell o kind (is_order kind && s.is_signed) (a ∷ b ∷ []) (result_width (sizing op) s) span → ((nets : Nets) → RunsIn n nets → number (values nets y) ≡ binary_value op s (number (values nets a)) t (number (values nets b))) → length z ≡ v → IsExtended y z v → ((k : ℕ) → AllBelow k y → AllBelow k z) → Adds o n z v (λ nets. binary_value op s (number (values nets a)) t (number (values nets b))) (cell_of (binary_kind op s.is_signed) s.is_signed (s.width ∷ t.width ∷ result_width (sizing op) s ∷ []) span)
binary_adds o n op kind s t a b y z v span k sized_s sized_t paired la lb below_a below_b le narrow is_y is value long same kept =
    let w : ℕ = result_width (sizing op) s in
    let f : Nets → ℕ = λ nets. binary_value op s (number (values nets a)) t (number (values nets b)) in
    let one : Adds o n z v f (record { kind = kind; is_signed = is_order kind && s.is_signed; widths = s.width ∷ t.width ∷ w ∷ []; span = span } ∷ []) =
    wide_cell o n kind (is_order kind && s.is_signed) (a ∷ b ∷ []) w v span y z f (s.width ∷ t.width ∷ []) (two_widths a b s.width t.width la lb) (binary_widths op kind s t k paired) (omega (arith, la, sized_s.some), omega (arith, la, sized_s.narrow), (omega (arith, lb, sized_t.some), omega (arith, lb, sized_t.narrow), tt)) (some_result (sizing op) s sized_s.some) le narrow (below_a, (below_b, tt)) is_y is value long same kept in
    subst (λ (o' : Option CellKind). Adds o n z v f (cell_of o' s.is_signed (s.width ∷ t.width ∷ w ∷ []) span)) (sym k) one

-- the mux of a choice
pub mux_adds : (o n : Building) (s nay yea y : List Bit) (w : ℕ) (span : Span) → 1 ≤ w → w ≤ 128 → length s ≡ 1 → length yea ≡ w → length nay ≡ w → AllBelow o.nets s → AllBelow o.nets yea → AllBelow o.nets nay → y ≡ fresh_bits o.nets w → n ≡ with_cell o Mux false (s ∷ nay ∷ yea ∷ []) w span → ((nets : Nets) → RunsIn n nets → number (values nets y) ≡ (if number (values nets s) == 0 then number (values nets nay) else number (values nets yea))) → Adds o n y w (λ nets. if number (values nets s) == 0 then number (values nets nay) else number (values nets yea)) (cell_of (Some Mux) false (1 ∷ w ∷ w ∷ w ∷ []) span)
mux_adds o n s nay yea y w span some narrow one ly ln below_s below_y below_n is_y is value =
    adds_cell o n Mux false (s ∷ nay ∷ yea ∷ []) w span y (λ nets. if number (values nets s) == 0 then number (values nets nay) else number (values nets yea)) (1 ∷ w ∷ w ∷ []) (ap (λ (m : ℕ). m ∷ length nay ∷ length yea ∷ []) one ∙ ap (λ (l : List ℕ). 1 ∷ l) (two_widths nay yea w w ln ly)) (refl, refl, refl) (omega (arith, one), omega (arith, one), (omega (arith, ln, some), omega (arith, ln, narrow), (omega (arith, ly, some), omega (arith, ly, narrow), tt))) some narrow (below_s, (below_n, (below_y, tt))) is_y is value

pub pick_adds : (o n : Building) (a i y z : List Bit) (w v : ℕ) (span : Span) → 1 ≤ length a → length a ≤ 128 → 1 ≤ length i → length i ≤ 128 → AllBelow o.nets a → AllBelow o.nets i → 1 ≤ w → w ≤ v → v ≤ 128 → y ≡ fresh_bits o.nets w → n ≡ with_cell o Pick false (a ∷ i ∷ []) w span → ((nets : Nets) → RunsIn n nets → number (values nets y) ≡ window (pos (number (values nets i))) w (number (values nets a))) → length z ≡ v → IsExtended y z v → ((k : ℕ) → AllBelow k y → AllBelow k z) → Adds o n z v (λ nets. window (pos (number (values nets i))) w (number (values nets a))) (cell_of (Some Pick) false (length a ∷ length i ∷ w ∷ []) span)
pick_adds o n a i y z w v span some_a narrow_a some_i narrow_i below_a below_i some le narrow is_y is value long same kept =
    wide_cell o n Pick false (a ∷ i ∷ []) w v span y z (λ nets. window (pos (number (values nets i))) w (number (values nets a))) (length a ∷ length i ∷ []) refl tt (some_a, narrow_a, (some_i, narrow_i, tt)) some le narrow (below_a, (below_i, tt)) is_y is value long same kept

-- a number of one bit tells whether it is 0
bit_is : (n : ℕ) → n < 2 → n ≡ digit (not (n == 0))
bit_is zero h = refl
bit_is (suc zero) h = refl
bit_is (suc (suc n)) h = absurd (omega arith)

one_bit : (nets : Nets) (y : List Bit) (m : ℕ) → length y ≡ 1 → (number (values nets y) == 0) ≡ (m == 0) → number (values nets y) ≡ digit (not (m == 0))
one_bit nets y m long e =
    let fits : number (values nets y) < 2 ^ length y = number-fits nets y in
    let small : number (values nets y) < 2 ^ 1 = subst (λ (k : ℕ). number (values nets y) < 2 ^ k) long fits in
    bit_is (number (values nets y)) (omega (arith, small)) ∙ ap (λ (b : Bool). digit (not b)) e

pub ror_adds : (o n : Building) (a y : List Bit) (w : ℕ) (span : Span) → 1 < w → w ≤ 128 → length a ≡ w → AllBelow o.nets a → length y ≡ 1 → y ≡ fresh_bits o.nets 1 → n ≡ with_cell o Ror false (a ∷ []) 1 span → ((nets : Nets) → RunsIn n nets → (number (values nets y) == 0) ≡ (number (values nets a) == 0)) → Adds o n y 1 (λ nets. digit (not (number (values nets a) == 0))) (if nat_lt 1 w then cell_of (Some Ror) false (w ∷ 1 ∷ []) span else [])
ror_adds o n a y w span wide narrow long below one is_y is value =
    let test : nat_lt 1 w ≡ true = grind (arith, nat_tests) in
    let f : Nets → ℕ = λ nets. digit (not (number (values nets a) == 0)) in
    subst (λ (b : Bool). Adds o n y 1 f (if b then cell_of (Some Ror) false (w ∷ 1 ∷ []) span else [])) (sym test)
    (adds_cell o n Ror false (a ∷ []) 1 span y f (w ∷ []) (ap (λ (m : ℕ). m ∷ []) long) refl (omega (arith, long, wide), omega (arith, long, narrow), tt) (omega arith) (omega arith) (below, tt) is_y is (λ nets runs. one_bit nets y (number (values nets a)) one (value nets runs)))

pub bit_adds : (o : Building) (a : List Bit) (w : ℕ) (span : Span) → 1 ≤ w → w ≤ 1 → length a ≡ w → AllBelow o.nets a → Adds o o a 1 (λ nets. digit (not (number (values nets a) == 0))) (if nat_lt 1 w then cell_of (Some Ror) false (w ∷ 1 ∷ []) span else [])
bit_adds o a w span some narrow long below =
    let test : nat_lt 1 w ≡ false = grind (arith, nat_tests) in
    let one : length a ≡ 1 = omega (arith, long, some, narrow) in
    let f : Nets → ℕ = λ nets. digit (not (number (values nets a) == 0)) in
    subst (λ (b : Bool). Adds o o a 1 f (if b then cell_of (Some Ror) false (w ∷ 1 ∷ []) span else [])) (sym test)
    (record { grows = grows_not o; cells = none_made o; long = one; below = below; value_is = λ nets runs. one_bit nets a (number (values nets a)) one refl })

-- Bits of a builder as it stands.

-- zeros above change no number
pub zeros_above : (nets : Nets) (bits found : List Bit) (v : ℕ) → length bits ≤ v → number (values nets found) ≡ extended (ShapeOfBits bits false) v (number (values nets bits)) → number (values nets found) ≡ number (values nets bits)
zeros_above nets bits found v le same = same ∙ extended_positive (ShapeOfBits bits false) v (number (values nets bits)) refl (number-fits nets bits) le

pub named_holds : (b : Building) (bits found : List Bit) (own c : Shape) (d : Option Decl) → length bits ≡ own.width → ((nets : Nets) → number (values nets bits) ≡ decl_value (store b nets) d) → AllBelow b.nets bits → length found ≡ c.width → ((nets : Nets) → number (values nets found) ≡ extended (ShapeOfBits bits c.is_signed) c.width (number (values nets bits))) → ((n : ℕ) → AllBelow n bits → AllBelow n found) → Holds b found c.width (λ signals. taken own c (decl_value signals d))
named_holds b bits found own c d long_bits value below long same kept = record {
  long = long;
  below = kept b.nets below;
  value_is = λ nets. same nets ∙ ap (λ (k : ℕ). extended (record { width = k; is_signed = c.is_signed }) c.width (number (values nets bits))) long_bits ∙ ap (extended (record { width = own.width; is_signed = c.is_signed }) c.width) (value nets);
}

pub placed_holds : (b : Building) (bits found : List Bit) (z : ℤ) (low size v : ℕ) (d : Option Decl) → low ≡ decl_low d → ((nets : Nets) → number (values nets bits) ≡ decl_value (store b nets) d) → AllBelow b.nets bits → length found ≡ v → ((nets : Nets) → number (values nets found) ≡ window (z -ℤ pos low) size (number (values nets bits))) → ((n : ℕ) → AllBelow n bits → AllBelow n found) → Holds b found v (λ signals. window (z -ℤ pos (decl_low d)) size (decl_value signals d))
placed_holds b bits found z low size v d is_low value below long same kept = record {
  long = long;
  below = kept b.nets below;
  value_is = λ nets. same nets ∙ ap (λ (k : ℕ). window (z -ℤ pos k) size (number (values nets bits))) is_low ∙ ap (window (z -ℤ pos (decl_low d)) size) (value nets);
}

-- new nets are as many as asked for
pub fresh_long : (from w v : ℕ) (y : List Bit) → y ≡ fresh_bits from w → w ≤ v → length y ≤ v
fresh_long from w v y is le = let l : length y ≡ w = ap length is ∙ length_fresh from w in omega (arith, l, le)

-- a name's bits that are picked
pub picked_adds : (o n : Building) (a i y : List Bit) (size v w : ℕ) (f : Nets → ℕ) (span : Span) (d : Option Decl) → length a ≡ (decl_shape d).width → ((nets : Nets) → number (values nets a) ≡ decl_value (store o nets) d) → length i ≡ w → ((nets : Nets) → number (values nets i) ≡ f nets) → Adds o n y v (λ nets. window (pos (number (values nets i))) size (number (values nets a))) (cell_of (Some Pick) false (length a ∷ length i ∷ size ∷ []) span) → Adds o n y v (λ nets. window (pos (f nets)) size (decl_value (store o nets) d)) (cell_of (Some Pick) false ((decl_shape d).width ∷ w ∷ size ∷ []) span)
picked_adds o n a i y size v w f span d long value wide place b = record {
  grows = b.grows;
  cells = b.cells ∙ ap (λ (k : ℕ). cell_of (Some Pick) false (k ∷ length i ∷ size ∷ []) span) long ∙ ap (λ (k : ℕ). cell_of (Some Pick) false ((decl_shape d).width ∷ k ∷ size ∷ []) span) wide;
  long = b.long;
  below = b.below;
  value_is = λ nets runs. b.value_is nets runs ∙ ap (window (pos (number (values nets i))) size) (value nets) ∙ ap (λ (k : ℕ). window (pos k) size (decl_value (store o nets) d)) (place nets);
}
