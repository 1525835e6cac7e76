-- An unsigned expression whose form keeps its width is a number of that width at each size.
use Rattle.vlog_effects.proofs.Common.{◌≡◌, ℕ, ◌<◌, ◌≤◌, ◌^◌, max, Bool, true, false, ◌&&◌, ◌||◌, List, [], map, refl, sym, subst, arith, if◌then◌else◌, xor_lt, or_lt, Expr, Expr-F, roll-Expr}
use Rattle.vlog_effects.proofs.Common.{fold-roll-Expr, ind-Expr, map-Expr, UnaryOperator, BinaryOperator, Sizing, Common, Left, Compared, Apart, Decl, Signal, Constant, Shape, bit, sizing, pair_shape}
use Rattle.vlog_effects.proofs.Common.{left_context, right_context, result_width, is_reduction, unary_shape, operand_context, unary_value, binary_value, Names, Store, decl_shape, decl_value, IsWithin}
use Rattle.vlog_effects.proofs.Common.{AreWithin, Sense, sense, senses, step, taken, binary_step, extended, unary_fits, binary_fits, wider, are_paired, is_test, is_bitwise, keeps_step, keeps_width}
use Rattle.vlog_effects.proofs.Common.{branch_fits}
use Rattle.std.specs.Prelude.{Option, None, Some}
use Rattle.std.specs.Int.Bits.{and_lt}
use Rattle.vlog_syntax.specs.declared.expr.Expr.TheOpen as e
use Rattle.vlog_syntax.specs.declared.operator.BinaryOperator.TheVariants.{Power, Multiply, Divide, Modulus, Add, Subtract, LogicalShiftLeft, LogicalShiftRight, ArithmeticShiftLeft}
use Rattle.vlog_syntax.specs.declared.operator.BinaryOperator.TheVariants.{ArithmeticShiftRight, Less, LessEqual, Greater, GreaterEqual, LogicalEquality, LogicalInequality, CaseEquality}
use Rattle.vlog_syntax.specs.declared.operator.BinaryOperator.TheVariants.{CaseInequality, BitwiseAnd, BitwiseXor, BitwiseXnor, BitwiseOr, LogicalAnd, LogicalOr}
use Rattle.vlog_meaning.proofs.Blanks.{left_nil, right_nil}
use Rattle.vlog_meaning.proofs.Signs.{extended_positive}
use Rattle.vlog_effects.proofs.Bools.{and-left, and-right}
use Rattle.vlog_effects.proofs.Fits.{left_at, right_at, fits, fits_at}

abbrev pub KeepsAs : Store → Bool → Sense → Type 0
KeepsAs store b a = b ≡ true → a.faults ≡ [] → (c : Shape) → c.is_signed ≡ false → a.shape.width ≤ c.width → a.value store c < 2 ^ a.shape.width

abbrev Keeps : Names → Store → Expr → Type 0
Keeps names store x = KeepsAs store (keeps_width x) (sense names x)

-- an expression with the proof for it
abbrev Proved : Names → Store → Type 0
Proved names store = (x : Expr) × Keeps names store x

taken_keeps : (own c : Shape) (v : ℕ) → c.is_signed ≡ false → own.width ≤ c.width → v < 2 ^ own.width → taken own c v < 2 ^ own.width
taken_keeps own c v sign wide small =
    let same : extended (record { width = own.width; is_signed = false }) c.width v ≡ v = extended_positive (record { width = own.width; is_signed = false }) c.width v refl small wide in
    subst (λ (b : Bool). extended (record { width = own.width; is_signed = b }) c.width v < 2 ^ own.width) (sym sign) (subst (λ (n : ℕ). n < 2 ^ own.width) (sym same) small)

decl_small : (store : Store) (d : Option Decl) → IsWithin store d → decl_value store d < 2 ^ (decl_shape d).width
decl_small store (Some (Signal width low is_signed n)) k = k
decl_small store (Some (Constant word low is_signed)) k = word.fits
decl_small store None k = omega arith

reduction_keeps : (op : UnaryOperator) (i c : Shape) (v : Shape → ℕ) → is_reduction op ≡ true → v i < 2 ^ i.width → unary_value op (operand_context op i c) (v (operand_context op i c)) < 2 ^ (unary_shape op i).width
reduction_keeps op i c v e small =
    let one : v i < 2 ^ i.width → unary_value op i (v i) < 2 ^ 1 = subst (λ (b : Bool). v i < 2 ^ (if b then i else bit).width → unary_value op (if b then i else bit) (v i) < 2 ^ 1) e (unary_fits op i bit (v i) (omega arith)) in
    subst (λ (b : Bool). unary_value op (if b then i else c) (v (if b then i else c)) < 2 ^ (if b then bit else i).width) (sym e) (one small)

test_width : (r : Sizing) (i j s : Shape) → is_test r ≡ true → result_width r s ≡ (pair_shape r i j).width
test_width Common i j s e = cc
test_width Left i j s e = cc
test_width Compared i j s e = refl
test_width Apart i j s e = refl

bitwise_common : (op : BinaryOperator) → is_bitwise op ≡ true → Common ≡ sizing op
bitwise_common Power e = cc
bitwise_common Multiply e = cc
bitwise_common Divide e = cc
bitwise_common Modulus e = cc
bitwise_common Add e = cc
bitwise_common Subtract e = cc
bitwise_common LogicalShiftLeft e = cc
bitwise_common LogicalShiftRight e = cc
bitwise_common ArithmeticShiftLeft e = cc
bitwise_common ArithmeticShiftRight e = cc
bitwise_common Less e = cc
bitwise_common LessEqual e = cc
bitwise_common Greater e = cc
bitwise_common GreaterEqual e = cc
bitwise_common LogicalEquality e = cc
bitwise_common LogicalInequality e = cc
bitwise_common CaseEquality e = cc
bitwise_common CaseInequality e = cc
bitwise_common BitwiseAnd e = refl
bitwise_common BitwiseXor e = refl
bitwise_common BitwiseXnor e = cc
bitwise_common BitwiseOr e = refl
bitwise_common LogicalAnd e = cc
bitwise_common LogicalOr e = cc

bitwise_fits : (op : BinaryOperator) (s t : Shape) (a b w : ℕ) → is_bitwise op ≡ true → a < 2 ^ w → b < 2 ^ w → binary_value op s a t b < 2 ^ w
bitwise_fits Power s t a b w e h k = cc
bitwise_fits Multiply s t a b w e h k = cc
bitwise_fits Divide s t a b w e h k = cc
bitwise_fits Modulus s t a b w e h k = cc
bitwise_fits Add s t a b w e h k = cc
bitwise_fits Subtract s t a b w e h k = cc
bitwise_fits LogicalShiftLeft s t a b w e h k = cc
bitwise_fits LogicalShiftRight s t a b w e h k = cc
bitwise_fits ArithmeticShiftLeft s t a b w e h k = cc
bitwise_fits ArithmeticShiftRight s t a b w e h k = cc
bitwise_fits Less s t a b w e h k = cc
bitwise_fits LessEqual s t a b w e h k = cc
bitwise_fits Greater s t a b w e h k = cc
bitwise_fits GreaterEqual s t a b w e h k = cc
bitwise_fits LogicalEquality s t a b w e h k = cc
bitwise_fits LogicalInequality s t a b w e h k = cc
bitwise_fits CaseEquality s t a b w e h k = cc
bitwise_fits CaseInequality s t a b w e h k = cc
bitwise_fits BitwiseAnd s t a b w e h k = and_lt w a b h k
bitwise_fits BitwiseXor s t a b w e h k = xor_lt w a b h k
bitwise_fits BitwiseXnor s t a b w e h k = cc
bitwise_fits BitwiseOr s t a b w e h k = or_lt w a b h k
bitwise_fits LogicalAnd s t a b w e h k = cc
bitwise_fits LogicalOr s t a b w e h k = cc

-- the operands keep their widths
bitwise_keeps : (op : BinaryOperator) (i j : Sense) (store : Store) (c : Shape) → is_bitwise op ≡ true → i.value store c < 2 ^ i.shape.width → j.value store c < 2 ^ j.shape.width → binary_step op i j store c < 2 ^ (pair_shape (sizing op) i.shape j.shape).width
bitwise_keeps op i j store c e h k =
    let w : ℕ = max i.shape.width j.shape.width in
    subst (λ (r : Sizing). binary_value op (left_context r i.shape j.shape c) (i.value store (left_context r i.shape j.shape c)) (right_context r i.shape j.shape c) (j.value store (right_context r i.shape j.shape c)) < 2 ^ (pair_shape r i.shape j.shape).width) (bitwise_common op e)
    (bitwise_fits op c c (i.value store c) (j.value store c) w e (wider _ i.shape.width w h (omega arith)) (wider _ j.shape.width w k (omega arith)))

-- a comparison, or `&&` or `||`
test_keeps : (names : Names) (store : Store) (op : BinaryOperator) (i j : Expr) (c : Shape) → is_test (sizing op) ≡ true → (sense names i).faults ≡ [] → (sense names j).faults ≡ [] → (pair_shape (sizing op) (sense names i).shape (sense names j).shape).width ≤ c.width → binary_step op (sense names i) (sense names j) store c < 2 ^ (pair_shape (sizing op) (sense names i).shape (sense names j).shape).width
test_keeps names store op i j c e f g h =
    let a : Shape = (sense names i).shape in
    let b : Shape = (sense names j).shape in
    let x : Shape = left_context (sizing op) a b c in
    let y : Shape = right_context (sizing op) a b c in
    let left = fits names store i f in
    let right = fits names store j g in
    let some : 1 ≤ x.width = let k : a.width ≤ x.width = left_at (sizing op) a b c h in let one = left.0 in omega arith in
    subst (λ (n : ℕ). binary_step op (sense names i) (sense names j) store c < 2 ^ n) (test_width (sizing op) a b x e)
    (binary_fits op x y ((sense names i).value store x) ((sense names j).value store y) some (are_paired (sizing op) a b c) (left.1 x (left_at (sizing op) a b c h)) (right.1 y (right_at (sizing op) a b c h)))

-- what holds of the step holds of the expression
from_step : (names : Names) (store : Store) (x : Expr-F Expr) → KeepsAs store (keeps_step (map-Expr Expr Bool keeps_width x)) (step names (map-Expr Expr Sense (sense names) x)) → Keeps names store (roll-Expr x)
from_step names store x keeps =
    subst (λ (a : Sense). KeepsAs store (keeps_width (roll-Expr x)) a) (sym (fold-roll-Expr Sense (step names) x))
    (subst (λ (b : Bool). KeepsAs store b (step names (map-Expr Expr Sense (sense names) x))) (sym (fold-roll-Expr Bool keeps_step x)) keeps)

abbrev Layer : (names : Names) (store : Store) → Expr-F (Proved names store) → Type 0
Layer names store y = KeepsAs store (keeps_step (map-Expr Expr Bool keeps_width (map-Expr (Proved names store) Expr (λ (w : Proved names store). w.0) y))) (step names (map-Expr Expr Sense (sense names) (map-Expr (Proved names store) Expr (λ (w : Proved names store). w.0) y)))

layer : (names : Names) (store : Store) → AreWithin names store → (y : Expr-F (Proved names store)) → Layer names store y
layer names store held (e.Number n) b quiet c sign wide = taken_keeps (record { width = n.value.width; is_signed = n.is_signed }) c n.value.bits sign wide n.value.fits
layer names store held (e.Name n) b quiet c sign wide = taken_keeps (decl_shape (names n.name)) c (decl_value store (names n.name)) sign wide (decl_small store (names n.name) (held n.name))
layer names store held (e.BitSelect n s i) b quiet c sign wide = (fits_at names store (e.BitSelect n s i.0) quiet).1 bit (omega arith)
layer names store held (e.PartSelect n s m l) b quiet c sign wide =
    let own : Shape = (step names (e.PartSelect n s (sense names m.0) (sense names l.0))).shape in
    (fits_at names store (e.PartSelect n s m.0 l.0) quiet).1 own (omega arith)
layer names store held (e.IndexedPartSelect n s m l) b quiet c sign wide =
    let own : Shape = (step names (e.IndexedPartSelect n s (sense names m.0) (sense names l.0))).shape in
    (fits_at names store (e.IndexedPartSelect n s m.0 l.0) quiet).1 own (omega arith)
layer names store held (e.Parenthesized s i) b quiet c sign wide = i.1 b quiet c sign wide
layer names store held (e.Unary s op i) b quiet c sign wide =
    reduction_keeps op (sense names i.0).shape c ((sense names i.0).value store) b ((fits names store i.0 quiet).1 (sense names i.0).shape (omega arith))
layer names store held (e.Binary s op i j) b quiet c sign wide = go (is_test (sizing op)) refl b where
  first : (sense names i.0).faults ≡ []
  first = left_nil (sense names i.0).faults (sense names j.0).faults quiet

  second : (sense names j.0).faults ≡ []
  second = right_nil (sense names i.0).faults (sense names j.0).faults quiet

  both : is_bitwise op && (keeps_width i.0 && keeps_width j.0) ≡ true → binary_step op (sense names i.0) (sense names j.0) store c < 2 ^ (pair_shape (sizing op) (sense names i.0).shape (sense names j.0).shape).width
  both f =
      let bitwise : is_bitwise op ≡ true = and-left (is_bitwise op) _ f in
      let parts : keeps_width i.0 && keeps_width j.0 ≡ true = and-right (is_bitwise op) _ f in
      let h : max (sense names i.0).shape.width (sense names j.0).shape.width ≤ c.width = subst (λ (r : Sizing). (pair_shape r (sense names i.0).shape (sense names j.0).shape).width ≤ c.width) (sym (bitwise_common op bitwise)) wide in
      bitwise_keeps op (sense names i.0) (sense names j.0) store c bitwise (i.1 (and-left (keeps_width i.0) _ parts) first c sign (omega arith)) (j.1 (and-right (keeps_width i.0) _ parts) second c sign (omega arith))

  go : (t : Bool) → is_test (sizing op) ≡ t → (t || is_bitwise op && (keeps_width i.0 && keeps_width j.0)) ≡ true → binary_step op (sense names i.0) (sense names j.0) store c < 2 ^ (pair_shape (sizing op) (sense names i.0).shape (sense names j.0).shape).width
  go true is f = test_keeps names store op i.0 j.0 c is first second wide
  go false is f = both f
layer names store held (e.Conditional s x i j) b quiet c sign wide =
    let rest = right_nil (sense names x.0).faults _ quiet in
    let w : ℕ = max (sense names i.0).shape.width (sense names j.0).shape.width in
    let h : w ≤ c.width = wide in
    let first = i.1 (and-left (keeps_width i.0) _ b) (left_nil (sense names i.0).faults (sense names j.0).faults rest) c sign (omega arith) in
    let second = j.1 (and-right (keeps_width i.0) _ b) (right_nil (sense names i.0).faults (sense names j.0).faults rest) c sign (omega arith) in
    branch_fits _ _ _ (2 ^ w) (wider _ (sense names j.0).shape.width w second (omega arith)) (wider _ (sense names i.0).shape.width w first (omega arith))
layer names store held (e.Concatenation s ps) b quiet c sign wide =
    let parts : List Expr = map (λ (w : Proved names store). w.0) ps in
    let own : Shape = (step names (e.Concatenation s (senses names parts))).shape in
    (fits_at names store (e.Concatenation s parts) quiet).1 own (omega arith)
layer names store held (e.MultipleConcatenation s k ps) b quiet c sign wide =
    let parts : List Expr = map (λ (w : Proved names store). w.0) ps in
    let own : Shape = (step names (e.MultipleConcatenation s (sense names k.0) (senses names parts))).shape in
    (fits_at names store (e.MultipleConcatenation s k.0 parts) quiet).1 own (omega arith)
layer names store held (e.SystemFunctionCall n ps) b quiet c sign wide = cc

pub keeps : (names : Names) (store : Store) → AreWithin names store → (x : Expr) → Keeps names store x
keeps names store held = ind-Expr (Keeps names store) (λ x y is. from_step names store x (subst (λ (z : Expr-F Expr). KeepsAs store (keeps_step (map-Expr Expr Bool keeps_width z)) (step names (map-Expr Expr Sense (sense names) z))) is (layer names store held y)))
