-- What statements take from expressions (IEEE 1364-2005, 5): the words of `Senses` at one width and sign, and bits.
use Rattle.std.specs.Prelude.{ℕ, zero, suc, ◌+◌, ◌*◌, ◌/◌, ◌%◌, ℤ, Bool, true, false, List, [], ◌∷◌, Option, None, Some, ◌==◌}
use Rattle.vlog_syntax.specs.declared.expr.Expr.{Expr}
use Rattle.vlog_meaning.specs.declared.fault.ConstError.{ConstError}
use Rattle.vlog_meaning.specs.declared.fault.Fault.{Fault}
use Rattle.vlog_meaning.specs.Answers.{const_error, least}
use Rattle.vlog_meaning.specs.Scopes.{Names, Store, nothing}
use Rattle.vlog_meaning.specs.Senses.{sense, assigned, constant_integer, constant_faults_at, is_empty}

abbrev pub width_of : Names → Expr → ℕ
width_of names e = (sense names e).shape.width

abbrev pub is_signed_of : Names → Expr → Bool
is_signed_of names e = (sense names e).shape.is_signed

-- the value at a width and sign, from the signals' values
abbrev pub value : Names → Store → ℕ → Bool → Expr → ℕ
value names store width is_signed e = (sense names e).value store (record { width = width; is_signed = is_signed })

-- the expression reads no signal
abbrev pub is_constant : Names → Expr → Bool
is_constant names e = is_empty (sense names e).signals

-- the expression reads bit i of signal k
abbrev pub reads : Names → Expr → ℕ → ℕ → Bool
reads names e k i = (sense names e).reads k i

-- the integer that a constant is
abbrev pub bound_of : Names → Expr → ℤ
bound_of names e = constant_integer (sense names e)

-- a fault as `constant` names it, if there is one
abbrev pub told : Option Fault → List ConstError
told None = []
told (Some f) = const_error f ∷ []

-- why an expression is no constant where it is assigned to so many bits: its first fault alone
abbrev pub constant_faults : Names → ℕ → Expr → List ConstError
constant_faults names width e = told (least (constant_faults_at (sense names e) (assigned (sense names e) width)))

abbrev pub where_faultless : List ConstError → ℕ → Option ℕ
where_faultless [] v = Some v
where_faultless (x ∷ more) v = None

-- the value of a constant where it is assigned to so many bits
abbrev pub constant_of : Names → ℕ → Expr → Option ℕ
constant_of names width e = where_faultless (constant_faults names width e) ((sense names e).value nothing (assigned (sense names e) width))

-- the number of bits, bit 0 first
abbrev pub number : List Bool → ℕ
number [] = 0
number (true ∷ bits) = 1 + 2 * number bits
number (false ∷ bits) = 2 * number bits

-- the lowest bits of a number, bit 0 first
abbrev pub bits_of : ℕ → ℕ → List Bool
bits_of zero v = []
bits_of (suc width) v = (v % 2 == 1) ∷ bits_of width (v / 2)
