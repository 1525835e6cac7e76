-- The greatest common divisor, and what it leaves of two numbers.
use Rattle.std.proofs.Common.{◌≡◌, ℕ, zero, suc, ◌*◌, ◌/◌, ◌%◌, ◌≤◌, ◌==◌, ◌&&◌, inl, inr, Bool, true, false, refl, sym, ap, ◌∙◌, subst, arith, true≢false, if◌then◌else◌}
use Rattle.std.specs.Int.{IsGcd}
use Rattle.std.proofs.Math.Nat.{div-add-mod, eq-or-lt_of_le, eq-zero_of_zero-dvd, dvd_of_mul-dvd-mul_left, mul-dvd-mul_left, mul_assoc, mul_left_comm, one-dvd}
use Rattle.std.proofs.lemmas.Bool.Decides.{Decides-eqb}
use Rattle.std.proofs.lemmas.Nat.Gcd.{dvd_of_mod-eq-zero, le_from_IsGcd, le_of_dvd, mod-eq-zero_of_dvd}
use Rattle.std.specs.Int.{◌∣◌}
use Rattle.report_values.specs.Fractions.{common, divides, greatest}
use Rattle.std.proofs.lemmas.Bool.{and_from}

-- The greatest number with a property.

step_if : (has : ℕ → Bool) (g most : ℕ) (b : Bool) → has (suc most) ≡ b → has g ≡ true → ((k : ℕ) → has k ≡ true → k ≤ g) → g ≤ suc most → (g ≤ most → greatest has most ≡ g) → (if b then suc most else greatest has most) ≡ g
step_if has g most true e h top l ih = omega (arith, top (suc most) e)
step_if has g most false e h top l ih = elim (eq-or-lt_of_le l) [
  | inl same ↦ absurd (true≢false (sym h ∙ (ap has same ∙ e)))
  | inr less ↦ ih (omega (arith, less))
]

greatest_is : (has : ℕ → Bool) (g most : ℕ) → has g ≡ true → ((k : ℕ) → has k ≡ true → k ≤ g) → 1 ≤ g → g ≤ most → greatest has most ≡ g
greatest_is has g zero h top one l = absurd (omega arith)
greatest_is has g (suc most) h top one l = step_if has g most (has (suc most)) refl h top l (greatest_is has g most h top one)

-- Divisors.

left_true : (a b : Bool) → (a && b) ≡ true → a ≡ true
left_true true b h = refl
left_true false b h = h

right_true : (a b : Bool) → (a && b) ≡ true → b ≡ true
right_true true b h = h
right_true false b h = absurd (true≢false (sym h))

divisor : (k n : ℕ) → divides k n ≡ true → k ∣ n
divisor k n h = dvd_of_mod-eq-zero k ((Decides-eqb (n % k) 0).0 h)

divided : (k n : ℕ) → k ∣ n → divides k n ≡ true
divided k n h = ap (λ (r : ℕ). r == 0) (mod-eq-zero_of_dvd k h)

pub common_positive : (n d g : ℕ) → 1 ≤ d → IsGcd n d g → 1 ≤ g
common_positive n d zero l h = absurd (omega (arith, eq-zero_of_zero-dvd h.1))
common_positive n d (suc g) l h = omega arith

pub common_is : (n d g : ℕ) → 1 ≤ d → IsGcd n d g → common n d ≡ g
unfolding common
common_is n d g l h =
    let one : 1 ≤ g = common_positive n d g l h in
    greatest_is (λ k. divides k n && divides k d) g d (and_from (divides g n) (divides g d) (divided g n h.0) (divided g d h.1))
    (λ k t. le_from_IsGcd n d g k h (omega (arith, one)) (divisor k n (left_true (divides k n) (divides k d) t)) (divisor k d (right_true (divides k n) (divides k d) t)))
    one (le_of_dvd (omega arith) h.1)

-- What is left.

multiple : (g n : ℕ) → g ∣ n → n ≡ g * (n / g)
multiple g n h = omega (arith, div-add-mod n g, mod-eq-zero_of_dvd g h)

factor_positive : (g d q : ℕ) → 1 ≤ d → d ≡ g * q → 1 ≤ q
factor_positive g d zero l e = absurd (omega (arith, e))
factor_positive g d (suc q) l e = omega arith

pub left_positive : (n d g : ℕ) → 1 ≤ d → IsGcd n d g → 1 ≤ d / g
left_positive n d g l h = factor_positive g d (d / g) l (multiple g d h.1)

pub same_left : (n d g : ℕ) → IsGcd n d g → n / g * d ≡ n * (d / g)
same_left n d g h =
    ap (λ (x : ℕ). n / g * x) (multiple g d h.1)
    ∙ (mul_left_comm (n / g) g (d / g)
    ∙ (sym (mul_assoc g (n / g) (d / g)) ∙ ap (λ (x : ℕ). x * (d / g)) (sym (multiple g n h.0))))

pub lowest_left : (n d g : ℕ) → 1 ≤ d → IsGcd n d g → IsGcd (n / g) (d / g) 1
lowest_left n d g l h = (
  one-dvd (n / g),
  one-dvd (d / g),
  λ k a b.
      let one : 1 ≤ g = common_positive n d g l h in
      let of_n : g * k ∣ n = subst (λ (x : ℕ). g * k ∣ x) (sym (multiple g n h.0)) (mul-dvd-mul_left k g a) in
      let of_d : g * k ∣ d = subst (λ (x : ℕ). g * k ∣ x) (sym (multiple g d h.1)) (mul-dvd-mul_left k g b) in
      dvd_of_mul-dvd-mul_left {k = g} k (omega (arith, one)) (subst (λ (x : ℕ). g * k ∣ x) (omega arith) (h.2 (g * k) of_n of_d)),
)
