-- Operands in their contexts, and values that fit them.
use Rattle.vlog_meaning.proofs.Common.{◌≡◌, ℕ, zero, suc, ◌+◌, ◌-◌, ◌*◌, ◌/◌, ◌%◌, ◌<◌, ◌≤◌, ◌^◌, max, Bool, true, false, ◌&&◌, ℤ, pos, negsuc, neg_ℤ, refl, sym, arith, subst, if◌then◌else◌, xor_lt}
use Rattle.vlog_meaning.proofs.Common.{or_lt, mod-lt, div-le_self, UnaryOperator, BinaryOperator, Shape, Sizing, integer, low_bits, parity, window, IsSized, ArePaired, bit, is_reduction, joint}
use Rattle.vlog_meaning.proofs.Common.{sizing, pair_shape, left_context, right_context, result_width, unary_shape, operand_context, digit, unary_value, binary_value, negative_power, IsContext}
use Rattle.std.specs.Int.Bits.{and_lt}
use Rattle.vlog_syntax.specs.declared.operator.UnaryOperator.TheVariants.{Plus, Minus, LogicalNot, BitwiseNot, ReductionAnd, ReductionNand, ReductionOr, ReductionNor, ReductionXor, ReductionXnor}
use Rattle.vlog_syntax.specs.declared.operator.BinaryOperator.TheVariants.{Power, Multiply, Divide, Modulus, Add, Subtract, LogicalShiftLeft, LogicalShiftRight, ArithmeticShiftLeft}
use Rattle.vlog_syntax.specs.declared.operator.BinaryOperator.TheVariants.{ArithmeticShiftRight, Less, LessEqual, Greater, GreaterEqual, LogicalEquality, LogicalInequality, CaseEquality}
use Rattle.vlog_syntax.specs.declared.operator.BinaryOperator.TheVariants.{CaseInequality, BitwiseAnd, BitwiseXor, BitwiseXnor, BitwiseOr, LogicalAnd, LogicalOr}
use Rattle.vlog_meaning.specs.declared.operator.Sizing.TheVariants.{Common, Left, Compared, Apart}
use Rattle.vlog_meaning.proofs.Powers.{power_le}

pub own_context : (s c : Shape) → c ≡ s → IsSized c → IsContext s c
own_context s c e sized = let P : Shape → Type 0 = λ t. IsContext t c in subst P e (record { wide = omega arith; narrow = sized.narrow; sign = λ h. h })

pub operand_within : (op : UnaryOperator) (i c : Shape) → IsSized i → IsContext (unary_shape op i) c → IsContext i (operand_context op i c)
operand_within Plus i c sized at = at
operand_within Minus i c sized at = at
operand_within BitwiseNot i c sized at = at
operand_within LogicalNot i c sized at = own_context i i refl sized
operand_within ReductionAnd i c sized at = own_context i i refl sized
operand_within ReductionNand i c sized at = own_context i i refl sized
operand_within ReductionOr i c sized at = own_context i i refl sized
operand_within ReductionNor i c sized at = own_context i i refl sized
operand_within ReductionXor i c sized at = own_context i i refl sized
operand_within ReductionXnor i c sized at = own_context i i refl sized

both_true : (a b : Bool) → a && b ≡ true → (a ≡ true) × (b ≡ true)
both_true true true e = (refl, refl)
both_true true false e = cc
both_true false b e = cc

pub joint_left : (i j c : Shape) → IsContext (joint i j) c → IsContext i c
joint_left i j c at = let w : max i.width j.width ≤ c.width = at.wide in record { wide = omega arith; narrow = at.narrow; sign = λ h. (both_true i.is_signed j.is_signed (at.sign h)).0 }

pub joint_right : (i j c : Shape) → IsContext (joint i j) c → IsContext j c
joint_right i j c at = let w : max i.width j.width ≤ c.width = at.wide in record { wide = omega arith; narrow = at.narrow; sign = λ h. (both_true i.is_signed j.is_signed (at.sign h)).1 }

joint_own : (i j : Shape) → IsSized i → IsSized j → IsContext (joint i j) (joint i j)
joint_own i j si sj = record { wide = omega arith; narrow = omega arith; sign = λ h. h }

pub left_within : (r : Sizing) (i j c : Shape) → IsSized i → IsSized j → IsContext (pair_shape r i j) c → IsContext i (left_context r i j c)
left_within Common i j c si sj at = joint_left i j c at
left_within Left i j c si sj at = at
left_within Compared i j c si sj at = joint_left i j (joint i j) (joint_own i j si sj)
left_within Apart i j c si sj at = own_context i i refl si

pub right_within : (r : Sizing) (i j c : Shape) → IsSized i → IsSized j → IsContext (pair_shape r i j) c → IsContext j (right_context r i j c)
right_within Common i j c si sj at = joint_right i j c at
right_within Left i j c si sj at = own_context j j refl sj
right_within Compared i j c si sj at = joint_right i j (joint i j) (joint_own i j si sj)
right_within Apart i j c si sj at = own_context j j refl sj

-- a context has at least one bit
pub context_sized : (s c : Shape) → IsSized s → IsContext s c → IsSized c
context_sized s c sized at = record { some = omega arith; narrow = at.narrow }

-- Values that fit.

pub low_bits_fit : (w : ℕ) (z : ℤ) → low_bits w z < 2 ^ w
low_bits_fit w (pos n) = mod-lt n (let e : 2 ^ 0 ≤ 2 ^ w = power_le 0 w (omega arith) in omega arith)
low_bits_fit w (negsuc n) = let e : 2 ^ 0 ≤ 2 ^ w = power_le 0 w (omega arith) in omega arith

mod_fits : (n w : ℕ) → n % 2 ^ w < 2 ^ w
mod_fits n w = mod-lt n (let e : 2 ^ 0 ≤ 2 ^ w = power_le 0 w (omega arith) in omega arith)

ones_fit : (w a : ℕ) → 2 ^ w - 1 - a < 2 ^ w
ones_fit w a = let e : 2 ^ 0 ≤ 2 ^ w = power_le 0 w (omega arith) in omega arith

top_fits : (w : ℕ) → 2 ^ w - 1 < 2 ^ w
top_fits w = let e : 2 ^ 0 ≤ 2 ^ w = power_le 0 w (omega arith) in omega arith

digit_fits : (b : Bool) (w : ℕ) → 1 ≤ w → digit b < 2 ^ w
digit_fits true w h = let e : 2 ^ 1 ≤ 2 ^ w = power_le 1 w h in omega arith
digit_fits false w h = let e : 2 ^ 1 ≤ 2 ^ w = power_le 1 w h in omega arith

parity_fits : (n v : ℕ) → parity n v < 2
parity_fits zero v = omega arith
parity_fits (suc n) v = omega arith

bit_fits : (n w : ℕ) → n < 2 → 1 ≤ w → n < 2 ^ w
bit_fits n w small h = let e : 2 ^ 1 ≤ 2 ^ w = power_le 1 w h in omega arith

pub unary_fits : (op : UnaryOperator) (i c : Shape) (a : ℕ) → 1 ≤ c.width → a < 2 ^ (operand_context op i c).width → unary_value op (operand_context op i c) a < 2 ^ c.width
unary_fits Plus i c a some h = h
unary_fits Minus i c a some h = low_bits_fit c.width (neg_ℤ (pos a))
unary_fits BitwiseNot i c a some h = ones_fit c.width a
unary_fits LogicalNot i c a some h = digit_fits _ c.width some
unary_fits ReductionAnd i c a some h = digit_fits _ c.width some
unary_fits ReductionNand i c a some h = digit_fits _ c.width some
unary_fits ReductionOr i c a some h = digit_fits _ c.width some
unary_fits ReductionNor i c a some h = digit_fits _ c.width some
unary_fits ReductionXor i c a some h = bit_fits _ c.width (parity_fits i.width a) some
unary_fits ReductionXnor i c a some h = bit_fits _ c.width (omega arith) some

pub branch_fits : (b : Bool) (x y m : ℕ) → x < m → y < m → (if b then x else y) < m
branch_fits true x y m h k = h
branch_fits false x y m h k = k

negative_power_fits : (w : ℕ) (z : ℤ) (n : ℕ) → 1 ≤ w → negative_power w z n < 2 ^ w
negative_power_fits w (pos k) n some = digit_fits _ w some
negative_power_fits w (negsuc k) n some = branch_fits _ _ 0 (2 ^ w) (branch_fits _ 1 (2 ^ w - 1) (2 ^ w) (bit_fits 1 w (omega arith) some) (top_fits w)) (bit_fits 0 w (omega arith) some)

pub binary_fits : (op : BinaryOperator) (s t : Shape) (a b : ℕ) → 1 ≤ s.width → ArePaired (sizing op) s t → a < 2 ^ s.width → b < 2 ^ t.width → binary_value op s a t b < 2 ^ result_width (sizing op) s
binary_fits Power s t a b some p h k = branch_fits _ _ _ _ (negative_power_fits s.width (integer s a) b some) (mod_fits (a ^ b) s.width)
binary_fits Multiply s t a b some p h k = mod_fits (a * b) s.width
binary_fits Divide s t a b some p h k = branch_fits _ 0 _ _ (bit_fits 0 s.width (omega arith) some) (low_bits_fit s.width _)
binary_fits Modulus s t a b some p h k = branch_fits _ 0 _ _ (bit_fits 0 s.width (omega arith) some) (low_bits_fit s.width _)
binary_fits Add s t a b some p h k = mod_fits (a + b) s.width
binary_fits Subtract s t a b some p h k = low_bits_fit s.width _
binary_fits LogicalShiftLeft s t a b some p h k = mod_fits (a * 2 ^ b) s.width
binary_fits LogicalShiftRight s t a b some p h k = let le : a / 2 ^ b ≤ a = div-le_self a (2 ^ b) in omega arith
binary_fits ArithmeticShiftLeft s t a b some p h k = mod_fits (a * 2 ^ b) s.width
binary_fits ArithmeticShiftRight s t a b some p h k = low_bits_fit s.width _
binary_fits Less s t a b some p h k = digit_fits _ 1 (omega arith)
binary_fits LessEqual s t a b some p h k = digit_fits _ 1 (omega arith)
binary_fits Greater s t a b some p h k = digit_fits _ 1 (omega arith)
binary_fits GreaterEqual s t a b some p h k = digit_fits _ 1 (omega arith)
binary_fits LogicalEquality s t a b some p h k = digit_fits _ 1 (omega arith)
binary_fits LogicalInequality s t a b some p h k = digit_fits _ 1 (omega arith)
binary_fits CaseEquality s t a b some p h k = digit_fits _ 1 (omega arith)
binary_fits CaseInequality s t a b some p h k = digit_fits _ 1 (omega arith)
binary_fits BitwiseAnd s t a b some p h k = and_lt s.width a b h (subst (λ (u : Shape). b < 2 ^ u.width) p k)
binary_fits BitwiseXor s t a b some p h k = xor_lt s.width a b h (subst (λ (u : Shape). b < 2 ^ u.width) p k)
binary_fits BitwiseXnor s t a b some p h k = ones_fit s.width _
binary_fits BitwiseOr s t a b some p h k = or_lt s.width a b h (subst (λ (u : Shape). b < 2 ^ u.width) p k)
binary_fits LogicalAnd s t a b some p h k = digit_fits _ 1 (omega arith)
binary_fits LogicalOr s t a b some p h k = digit_fits _ 1 (omega arith)

pub wider : (n v w : ℕ) → n < 2 ^ v → v ≤ w → n < 2 ^ w
wider n v w h le = let e : 2 ^ v ≤ 2 ^ w = power_le v w le in omega arith

-- what `i op j` is evaluated to fits its context
pub pair_fits : (r : Sizing) (i j c : Shape) (n : ℕ) → 1 ≤ c.width → n < 2 ^ result_width r (left_context r i j c) → n < 2 ^ c.width
pair_fits Common i j c n some h = h
pair_fits Left i j c n some h = h
pair_fits Compared i j c n some h = wider n 1 c.width h some
pair_fits Apart i j c n some h = wider n 1 c.width h some

pub are_paired : (r : Sizing) (i j c : Shape) → ArePaired r (left_context r i j c) (right_context r i j c)
are_paired Common i j c = refl
are_paired Left i j c = tt
are_paired Compared i j c = refl
are_paired Apart i j c = tt

pub window_fits : (z : ℤ) (w v : ℕ) → window z w v < 2 ^ w
window_fits (pos n) w v = mod_fits (v / 2 ^ n) w
window_fits (negsuc n) w v = mod_fits (v * 2 ^ (n + 1)) w

pub unary_some : (op : UnaryOperator) (i : Shape) → IsSized i → 1 ≤ (unary_shape op i).width
unary_some Plus i sized = sized.some
unary_some Minus i sized = sized.some
unary_some BitwiseNot i sized = sized.some
unary_some LogicalNot i sized = omega arith
unary_some ReductionAnd i sized = omega arith
unary_some ReductionNand i sized = omega arith
unary_some ReductionOr i sized = omega arith
unary_some ReductionNor i sized = omega arith
unary_some ReductionXor i sized = omega arith
unary_some ReductionXnor i sized = omega arith

-- an operator before an operand that stands for itself
own_if : (b : Bool) (i : Shape) → (if b then i else (if b then bit else i)) ≡ i
own_if true i = refl
own_if false i = refl

pub operand_own : (op : UnaryOperator) (i : Shape) → operand_context op i (unary_shape op i) ≡ i
operand_own op i = own_if (is_reduction op) i

sized_if : (b : Bool) (i : Shape) → IsSized i → IsSized (if b then bit else i)
sized_if true i sized = record { some = omega arith; narrow = omega arith }
sized_if false i sized = sized

pub unary_sized : (op : UnaryOperator) (i : Shape) → IsSized i → IsSized (unary_shape op i)
unary_sized op i sized = sized_if (is_reduction op) i sized

pub unary_own_fits : (op : UnaryOperator) (i : Shape) (a : ℕ) → IsSized i → a < 2 ^ i.width → unary_value op i a < 2 ^ (unary_shape op i).width
unary_own_fits op i a sized h =
    let P : Shape → Type 0 = λ s. unary_value op s a < 2 ^ (unary_shape op i).width in
    let Q : Shape → Type 0 = λ s. a < 2 ^ s.width in
    subst P (operand_own op i) (unary_fits op i (unary_shape op i) a (unary_some op i sized) (subst Q (sym (operand_own op i)) h))
