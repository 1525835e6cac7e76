-- Sizes, signs and values of operators (IEEE 1364-2005, 5.1, 5.4.1 and 5.5.1), in two values.
use Rattle.std.specs.Prelude.{◌≡◌, ◌≤◌, ℕ, ◌+◌, ◌-◌, ◌*◌, ◌/◌, ◌%◌, ◌^◌, max, ℤ, pos, negsuc, ◌-ℤ◌, neg_ℤ, Bool, true, false, not, ◌&&◌, ◌||◌, ◌==◌, bit_and, bit_or, bit_xor, int_lt, int_div, int_rem, if◌then◌else◌}
use Rattle.vlog_syntax.specs.declared.operator.UnaryOperator.{UnaryOperator}
use Rattle.vlog_syntax.specs.declared.operator.UnaryOperator.TheVariants.{Plus, Minus, LogicalNot, BitwiseNot, ReductionAnd, ReductionNand, ReductionOr, ReductionNor, ReductionXor, ReductionXnor}
use Rattle.vlog_syntax.specs.declared.operator.BinaryOperator.{BinaryOperator}
use Rattle.vlog_syntax.specs.declared.operator.BinaryOperator.TheVariants.{Power, Multiply, Divide, Modulus, Add, Subtract, LogicalShiftLeft, LogicalShiftRight, ArithmeticShiftLeft, ArithmeticShiftRight, Less, LessEqual, Greater, GreaterEqual, LogicalEquality, LogicalInequality, CaseEquality, CaseInequality, BitwiseAnd, BitwiseXor, BitwiseXnor, BitwiseOr, LogicalAnd, LogicalOr}
use Rattle.vlog_meaning.specs.declared.shapes.Shape.{Shape}
use Rattle.vlog_meaning.specs.declared.operator.Sizing.{Sizing}
use Rattle.vlog_meaning.specs.declared.operator.Sizing.TheVariants.{Common, Left, Compared, Apart}
use Rattle.vlog_meaning.specs.Integers.{is_negative, integer, low_bits, halved, parity}

-- a shape has from 1 to 128 bits
pub record IsSized (s : Shape) : Type 0 where
  pub some : 1 ≤ s.width
  pub narrow : s.width ≤ 128

-- one unsigned bit
abbrev pub bit : Shape
bit = record { width = 1; is_signed = false }

-- the greater width, signed where both are
abbrev pub joint : Shape → Shape → Shape
joint i j = record { width = max i.width j.width; is_signed = i.is_signed && j.is_signed }

-- Table 5-22: which of its four rules sizes a binary operator.
abbrev pub sizing : BinaryOperator → Sizing
sizing Multiply = Common
sizing Divide = Common
sizing Modulus = Common
sizing Add = Common
sizing Subtract = Common
sizing BitwiseAnd = Common
sizing BitwiseXor = Common
sizing BitwiseXnor = Common
sizing BitwiseOr = Common
sizing Power = Left
sizing LogicalShiftLeft = Left
sizing LogicalShiftRight = Left
sizing ArithmeticShiftLeft = Left
sizing ArithmeticShiftRight = Left
sizing Less = Compared
sizing LessEqual = Compared
sizing Greater = Compared
sizing GreaterEqual = Compared
sizing LogicalEquality = Compared
sizing LogicalInequality = Compared
sizing CaseEquality = Compared
sizing CaseInequality = Compared
sizing LogicalAnd = Apart
sizing LogicalOr = Apart

-- the shape of `i op j`, from those of i and j
abbrev pub pair_shape : Sizing → Shape → Shape → Shape
pair_shape Common i j = joint i j
pair_shape Left i j = i
pair_shape Compared i j = bit
pair_shape Apart i j = bit

-- the width and sign at which i is evaluated, and j, where `i op j` is evaluated at those of c
abbrev pub left_context : Sizing → Shape → Shape → Shape → Shape
left_context Common i j c = c
left_context Left i j c = c
left_context Compared i j c = joint i j
left_context Apart i j c = i

abbrev pub right_context : Sizing → Shape → Shape → Shape → Shape
right_context Common i j c = c
right_context Left i j c = j
right_context Compared i j c = joint i j
right_context Apart i j c = j

-- the shapes at which the operands are evaluated: one, where the rule says so
abbrev pub ArePaired : Sizing → Shape → Shape → Type 0
ArePaired Common s t = t ≡ s
ArePaired Left s t = Unit {0}
ArePaired Compared s t = t ≡ s
ArePaired Apart s t = Unit {0}

-- the width that holds the value of `a op b`, where a is evaluated at the shape s
abbrev pub result_width : Sizing → Shape → ℕ
result_width Common s = s.width
result_width Left s = s.width
result_width Compared s = 1
result_width Apart s = 1

-- the same for `op i`: reductions and `!` have one bit, and their operand is self-determined
abbrev pub is_reduction : UnaryOperator → Bool
is_reduction Plus = false
is_reduction Minus = false
is_reduction BitwiseNot = false
is_reduction LogicalNot = true
is_reduction ReductionAnd = true
is_reduction ReductionNand = true
is_reduction ReductionOr = true
is_reduction ReductionNor = true
is_reduction ReductionXor = true
is_reduction ReductionXnor = true

abbrev pub unary_shape : UnaryOperator → Shape → Shape
unary_shape op i = if is_reduction op then bit else i

abbrev pub operand_context : UnaryOperator → Shape → Shape → Shape
operand_context op i c = if is_reduction op then i else c

abbrev pub digit : Bool → ℕ
digit true = 1
digit false = 0

-- the value of `op a`, where a has this shape
abbrev pub unary_value : UnaryOperator → Shape → ℕ → ℕ
unary_value Plus s a = a
unary_value Minus s a = low_bits s.width (neg_ℤ (pos a))
unary_value BitwiseNot s a = 2 ^ s.width - 1 - a
unary_value LogicalNot s a = digit (a == 0)
unary_value ReductionAnd s a = digit (a == 2 ^ s.width - 1)
unary_value ReductionNand s a = digit (not (a == 2 ^ s.width - 1))
unary_value ReductionOr s a = digit (not (a == 0))
unary_value ReductionNor s a = digit (a == 0)
unary_value ReductionXor s a = parity s.width a
unary_value ReductionXnor s a = 1 - parity s.width a

-- Table 5-6, a negative exponent: 1 stays 1, -1 alternates, and any other base gives 0.
abbrev pub negative_power : ℕ → ℤ → ℕ → ℕ
negative_power w (pos n) exponent = digit (n == 1)
negative_power w (negsuc n) exponent = if n == 0 then (if exponent % 2 == 0 then 1 else 2 ^ w - 1) else 0

-- `a ** b`, where a has the shape s and b the shape t
abbrev pub power : Shape → ℕ → Shape → ℕ → ℕ
power s a t b = if is_negative t b then negative_power s.width (integer s a) b else a ^ b % 2 ^ s.width

-- a division or remainder by 0, or 0 to a negative power: it is refused in a constant, and is 0 elsewhere
abbrev pub divides_by_zero : BinaryOperator → ℕ → Shape → ℕ → Bool
divides_by_zero Divide a t b = b == 0
divides_by_zero Modulus a t b = b == 0
divides_by_zero Power a t b = a == 0 && is_negative t b
divides_by_zero op a t b = false

-- the value of `a op b`, where a is evaluated at the shape s and b at t
abbrev pub binary_value : BinaryOperator → Shape → ℕ → Shape → ℕ → ℕ
binary_value Power s a t b = power s a t b
binary_value Multiply s a t b = a * b % 2 ^ s.width
binary_value Divide s a t b = if b == 0 then 0 else low_bits s.width (int_div (integer s a) (integer s b))
binary_value Modulus s a t b = if b == 0 then 0 else low_bits s.width (int_rem (integer s a) (integer s b))
binary_value Add s a t b = (a + b) % 2 ^ s.width
binary_value Subtract s a t b = low_bits s.width (pos a -ℤ pos b)
binary_value LogicalShiftLeft s a t b = a * 2 ^ b % 2 ^ s.width
binary_value LogicalShiftRight s a t b = a / 2 ^ b
binary_value ArithmeticShiftLeft s a t b = a * 2 ^ b % 2 ^ s.width
binary_value ArithmeticShiftRight s a t b = low_bits s.width (halved (integer s a) b)
binary_value Less s a t b = digit (int_lt (integer s a) (integer s b))
binary_value LessEqual s a t b = digit (not (int_lt (integer s b) (integer s a)))
binary_value Greater s a t b = digit (int_lt (integer s b) (integer s a))
binary_value GreaterEqual s a t b = digit (not (int_lt (integer s a) (integer s b)))
binary_value LogicalEquality s a t b = digit (a == b)
binary_value LogicalInequality s a t b = digit (not (a == b))
binary_value CaseEquality s a t b = digit (a == b)
binary_value CaseInequality s a t b = digit (not (a == b))
binary_value BitwiseAnd s a t b = bit_and a b
binary_value BitwiseXor s a t b = bit_xor a b
binary_value BitwiseXnor s a t b = 2 ^ s.width - 1 - bit_xor a b
binary_value BitwiseOr s a t b = bit_or a b
binary_value LogicalAnd s a t b = digit (not (a == 0) && not (b == 0))
binary_value LogicalOr s a t b = digit (not (a == 0) || not (b == 0))
