-- What the cell of a node shows in a run, and that its ports have the widths of its kind.
use Rattle.elab_expr.proofs.Common.{◌≡◌, ℕ, ◌≤◌, ◌&&◌, ◌==◌, Bool, true, false, ◌∷◌, [], List, ◌∙◌, ap, sym, refl, length, pos, Some, if◌then◌else◌, Span, UnaryOperator, BinaryOperator, Bit, CellKind}
use Rattle.elab_expr.proofs.Common.{Not, Neg, And, Or, Xor, Xnor, Add, Sub, Mul, Lt, Le, Gt, Ge, Eq, Ne, Shl, Shr, Sshr, Rand, Ror, Rxor, Rnand, Rnor, Rxnor, Lnot, Land, Lor, Mux, Pick, Put, number}
use Rattle.elab_expr.proofs.Common.{laid_at, Nets, values, shape_of, HasWidths, Shape, window, sizing, ArePaired, result_width, is_reduction, unary_value, binary_value, Building, RunsIn, with_cell}
use Rattle.elab_expr.proofs.Common.{fresh_bits, unary_kind, binary_kind, is_order, shows, length-values}
use Rattle.vlog_syntax.specs.declared.operator.UnaryOperator.TheVariants as u
use Rattle.vlog_syntax.specs.declared.operator.BinaryOperator.TheVariants as b
use Rattle.elab_expr.proofs.KindLemmas as cells
use Rattle.elab_expr.proofs.KindLemmas.{some_of}
use Rattle.elab_expr.proofs.UnaryLemmas as more

-- Widths.

pub unary_widths : (op : UnaryOperator) (kind : CellKind) (w : ℕ) → unary_kind op ≡ Some kind → HasWidths (shape_of kind) (w ∷ (if is_reduction op then 1 else w) ∷ [])
unary_widths u.Plus kind w k = cc
unary_widths u.Minus kind w k = rw (some_of Neg kind k) refl
unary_widths u.BitwiseNot kind w k = rw (some_of Not kind k) refl
unary_widths u.LogicalNot kind w k = rw (some_of Lnot kind k) refl
unary_widths u.ReductionAnd kind w k = rw (some_of Rand kind k) refl
unary_widths u.ReductionNand kind w k = rw (some_of Rnand kind k) refl
unary_widths u.ReductionOr kind w k = rw (some_of Ror kind k) refl
unary_widths u.ReductionNor kind w k = rw (some_of Rnor kind k) refl
unary_widths u.ReductionXor kind w k = rw (some_of Rxor kind k) refl
unary_widths u.ReductionXnor kind w k = rw (some_of Rxnor kind k) refl

width_of : (s t : Shape) → t ≡ s → t.width ≡ s.width
width_of s t e = ap (λ (x : Shape). x.width) e

shift_widths : (signed : Bool) (kind : CellKind) (v w : ℕ) → Some (if signed then Sshr else Shr) ≡ Some kind → HasWidths (shape_of kind) (v ∷ w ∷ v ∷ [])
shift_widths true kind v w k = rw (some_of Sshr kind k) refl
shift_widths false kind v w k = rw (some_of Shr kind k) refl

pub binary_widths : (op : BinaryOperator) (kind : CellKind) (s t : Shape) → binary_kind op s.is_signed ≡ Some kind → ArePaired (sizing op) s t → HasWidths (shape_of kind) (s.width ∷ t.width ∷ result_width (sizing op) s ∷ [])
binary_widths b.Power kind s t k p = cc
binary_widths b.Divide kind s t k p = cc
binary_widths b.Modulus kind s t k p = cc
binary_widths b.Multiply kind s t k p = rw (some_of Mul kind k) (refl, width_of s t p)
binary_widths b.Add kind s t k p = rw (some_of Add kind k) (refl, width_of s t p)
binary_widths b.Subtract kind s t k p = rw (some_of Sub kind k) (refl, width_of s t p)
binary_widths b.LogicalShiftLeft kind s t k p = rw (some_of Shl kind k) refl
binary_widths b.ArithmeticShiftLeft kind s t k p = rw (some_of Shl kind k) refl
binary_widths b.LogicalShiftRight kind s t k p = rw (some_of Shr kind k) refl
binary_widths b.ArithmeticShiftRight kind s t k p = shift_widths s.is_signed kind s.width t.width k
binary_widths b.Less kind s t k p = rw (some_of Lt kind k) (sym (width_of s t p), refl)
binary_widths b.LessEqual kind s t k p = rw (some_of Le kind k) (sym (width_of s t p), refl)
binary_widths b.Greater kind s t k p = rw (some_of Gt kind k) (sym (width_of s t p), refl)
binary_widths b.GreaterEqual kind s t k p = rw (some_of Ge kind k) (sym (width_of s t p), refl)
binary_widths b.LogicalEquality kind s t k p = rw (some_of Eq kind k) (sym (width_of s t p), refl)
binary_widths b.CaseEquality kind s t k p = rw (some_of Eq kind k) (sym (width_of s t p), refl)
binary_widths b.LogicalInequality kind s t k p = rw (some_of Ne kind k) (sym (width_of s t p), refl)
binary_widths b.CaseInequality kind s t k p = rw (some_of Ne kind k) (sym (width_of s t p), refl)
binary_widths b.BitwiseAnd kind s t k p = rw (some_of And kind k) (refl, width_of s t p)
binary_widths b.BitwiseXor kind s t k p = rw (some_of Xor kind k) (refl, width_of s t p)
binary_widths b.BitwiseXnor kind s t k p = rw (some_of Xnor kind k) (refl, width_of s t p)
binary_widths b.BitwiseOr kind s t k p = rw (some_of Or kind k) (refl, width_of s t p)
binary_widths b.LogicalAnd kind s t k p = rw (some_of Land kind k) refl
binary_widths b.LogicalOr kind s t k p = rw (some_of Lor kind k) refl

-- Values.

pub unary_shows : (old new : Building) (op : UnaryOperator) (kind : CellKind) (s : Shape) (a y : List Bit) (span : Span) (nets : Nets) → unary_kind op ≡ Some kind → length a ≡ s.width → y ≡ fresh_bits old.nets (if is_reduction op then 1 else s.width) → new ≡ with_cell old kind false (a ∷ []) (if is_reduction op then 1 else s.width) span → RunsIn new nets → number (values nets y) ≡ unary_value op s (number (values nets a))
unary_shows old new op kind s a y span nets k la is_y is runs =
    shows old new kind false (a ∷ []) (if is_reduction op then 1 else s.width) span y nets is_y is runs ∙ more.unary_cell op kind s (values nets a) k (length-values nets a ∙ la)

pub binary_shows : (old new : Building) (op : BinaryOperator) (kind : CellKind) (s t : Shape) (a b y : List Bit) (span : Span) (nets : Nets) → binary_kind op s.is_signed ≡ Some kind → 1 ≤ s.width → length a ≡ s.width → length b ≡ t.width → ArePaired (sizing op) s t → y ≡ fresh_bits old.nets (result_width (sizing op) s) → new ≡ with_cell old kind (is_order kind && s.is_signed) (a ∷ b ∷ []) (result_width (sizing op) s) span → RunsIn new nets → number (values nets y) ≡ binary_value op s (number (values nets a)) t (number (values nets b))
binary_shows old new op kind s t a b y span nets k some la lb paired is_y is runs =
    shows old new kind (is_order kind && s.is_signed) (a ∷ b ∷ []) (result_width (sizing op) s) span y nets is_y is runs
    ∙ cells.binary_cell op kind s t (values nets a) (values nets b) k some (length-values nets a ∙ la) (length-values nets b ∙ lb) paired

pub mux_shows : (old new : Building) (w : ℕ) (s nay yea y : List Bit) (span : Span) (nets : Nets) → length nay ≡ w → length yea ≡ w → y ≡ fresh_bits old.nets w → new ≡ with_cell old Mux false (s ∷ nay ∷ yea ∷ []) w span → RunsIn new nets → number (values nets y) ≡ (if number (values nets s) == 0 then number (values nets nay) else number (values nets yea))
mux_shows old new w s nay yea y span nets ln ly is_y is runs =
    shows old new Mux false (s ∷ nay ∷ yea ∷ []) w span y nets is_y is runs ∙ more.mux_cell w (values nets s) (values nets nay) (values nets yea) (length-values nets nay ∙ ln) (length-values nets yea ∙ ly)

pub pick_shows : (old new : Building) (w : ℕ) (a i y : List Bit) (span : Span) (nets : Nets) → y ≡ fresh_bits old.nets w → new ≡ with_cell old Pick false (a ∷ i ∷ []) w span → RunsIn new nets → number (values nets y) ≡ window (pos (number (values nets i))) w (number (values nets a))
pick_shows old new w a i y span nets is_y is runs =
    shows old new Pick false (a ∷ i ∷ []) w span y nets is_y is runs ∙ more.pick_cell w (values nets a) (values nets i)

pub put_shows : (old new : Building) (w : ℕ) (a i d y : List Bit) (span : Span) (nets : Nets) → length a ≡ w → y ≡ fresh_bits old.nets w → new ≡ with_cell old Put false (a ∷ i ∷ d ∷ []) w span → RunsIn new nets → number (values nets y) ≡ number (laid_at (values nets a) (number (values nets i)) (values nets d))
put_shows old new w a i d y span nets la is_y is runs =
    shows old new Put false (a ∷ i ∷ d ∷ []) w span y nets is_y is runs ∙ more.put_cell w (values nets a) (values nets i) (values nets d) (length-values nets a ∙ la)

pub ror_shows : (old new : Building) (a y : List Bit) (span : Span) (nets : Nets) → y ≡ fresh_bits old.nets 1 → new ≡ with_cell old Ror false (a ∷ []) 1 span → RunsIn new nets → (number (values nets y) == 0) ≡ (number (values nets a) == 0)
ror_shows old new a y span nets is_y is runs =
    ap (λ (m : ℕ). m == 0) (shows old new Ror false (a ∷ []) 1 span y nets is_y is runs) ∙ more.ror_cell (values nets a)
