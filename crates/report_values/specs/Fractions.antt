-- The values of a report: fractions in lowest terms, and what the operators make of them.
use Rattle.std.specs.Prelude.{◌≡◌, ℕ, zero, suc, ◌+◌, ◌-◌, ◌*◌, ◌/◌, ◌%◌, ◌^◌, ◌≤◌, ◌==◌, Bool, true, false, not, ◌&&◌, Result, Ok, Err, nat_le, nat_lt, if◌then◌else◌}
use Rattle.std.specs.Int.{IsGcd}
use Rattle.report_values.specs.declared.fraction.Fault.{Fault}
use Rattle.report_values.specs.declared.fraction.Fault.TheVariants as fault
use Rattle.report_values.specs.declared.fraction.Fraction.{Fraction}

-- a number divides another
abbrev pub divides : ℕ → ℕ → Bool
divides k n = n % k == 0

-- the greatest number from 1 to `most` with this property, or 0
abbrev pub greatest : (ℕ → Bool) → ℕ → ℕ
greatest has zero = 0
greatest has (suc most) = if has (suc most) then suc most else greatest has most

-- the greatest number that divides both
unfoldable pub common : ℕ → ℕ → ℕ
common n d = greatest (λ k. divides k n && divides k d) d

-- what both are, divided by this number; 0 is not negative
abbrev pub reduced : Bool → ℕ → ℕ → Result Fraction Fault
reduced negative n d =
    if nat_le n (10 ^ 12) && nat_le d (10 ^ 12) then Ok (record { negative = negative && not (n == 0); numerator = n; denominator = d }) else
    Err fault.OutOfRange

-- n / d in lowest terms, where both of these are at most 10^12
unfoldable pub lowest : Bool → ℕ → ℕ → Result Fraction Fault
lowest negative n d = reduced negative (n / common n d) (d / common n d)

-- a fraction in range
pub record IsSmall (f : Fraction) : Type 0 where
  pub numerator : f.numerator ≤ 10 ^ 12
  pub positive : 1 ≤ f.denominator
  pub denominator : f.denominator ≤ 10 ^ 12

-- in size the fraction is n / d, and nothing but 1 divides both its parts
pub record IsLowest (n d : ℕ) (f : Fraction) : Type 0 where
  pub same : f.numerator * d ≡ n * f.denominator
  pub lowest : IsGcd f.numerator f.denominator 1

abbrev pub whole : ℕ → Fraction
whole n = record { negative = false; numerator = n; denominator = 1 }

-- two signs are different
abbrev pub differ : Bool → Bool → Bool
differ true b = not b
differ false b = b

-- the sum of x / d and y / d with these signs
abbrev pub signed_sum : Bool → ℕ → Bool → ℕ → ℕ → Result Fraction Fault
signed_sum p x q y d =
    if not (differ p q) then lowest p (x + y) d else
    (if nat_le y x then lowest p (x - y) d else lowest q (y - x) d)

unfoldable pub sum : Fraction → Fraction → Result Fraction Fault
sum a b = signed_sum a.negative (a.numerator * b.denominator) b.negative (b.numerator * a.denominator) (a.denominator * b.denominator)

abbrev pub negated : Fraction → Fraction
negated a = record { negative = not a.negative && not (a.numerator == 0); numerator = a.numerator; denominator = a.denominator }

unfoldable pub difference : Fraction → Fraction → Result Fraction Fault
difference a b = sum a (negated b)

unfoldable pub product : Fraction → Fraction → Result Fraction Fault
product a b = lowest (differ a.negative b.negative) (a.numerator * b.numerator) (a.denominator * b.denominator)

unfoldable pub quotient : Fraction → Fraction → Result Fraction Fault
quotient a b =
    if b.numerator == 0 then Err fault.DivisionByZero else
    lowest (differ a.negative b.negative) (a.numerator * b.denominator) (a.denominator * b.numerator)

-- x is less than y, with these signs; 0 is not negative
abbrev pub signed_less : Bool → ℕ → Bool → ℕ → Bool
signed_less false x false y = nat_lt x y
signed_less true x true y = nat_lt y x
signed_less true x false y = true
signed_less false x true y = false

unfoldable pub is_less : Fraction → Fraction → Bool
is_less a b = signed_less a.negative (a.numerator * b.denominator) b.negative (b.numerator * a.denominator)

abbrev pub is_equal : Fraction → Fraction → Bool
is_equal a b = not (differ a.negative b.negative) && (a.numerator == b.numerator && a.denominator == b.denominator)

-- 0 is false
abbrev pub is_true : Fraction → Bool
is_true a = not (a.numerator == 0)

abbrev pub truth : Bool → Fraction
truth b = whole (if b then 1 else 0)
