-- What one round of a loop over a number's bits keeps.
use Rattle.vlog_meaning.proofs.Common.{◌≡◌, ℕ, zero, suc, ◌+◌, ◌*◌, ◌/◌, ◌%◌, ◌<◌, ◌≤◌, ◌^◌, false, ℤ, nat_abs, refl, sym, ap, ◌∙◌, arith, mul_assoc, int_rem, ◌≢◌, if◌then◌else◌, inl, inr, eqb_tells}
use Rattle.vlog_meaning.proofs.Common.{pow-add, mul-pow, mul-mod_first, mul-mod_second, pow-mod, mod-eq_of_lt, mod-le, pow-suc, pow-zero, Shape, is_negative, integer, low_bits, parity}
use Rattle.std.specs.Prelude.{◌==◌}
use Rattle.vlog_meaning.proofs.Signs.{integer_positive}

-- an even power is a power of the square
pub pow_even : (s l : ℕ) → l % 2 ≡ 0 → s ^ l ≡ (s * s) ^ (l / 2)
pow_even s l even =
    let half : l ≡ l / 2 + l / 2 = omega arith in
    ap (λ (n : ℕ). s ^ n) half ∙ pow-add s (l / 2) (l / 2) ∙ sym (mul-pow s s (l / 2))

power_one : (s : ℕ) → s ^ 1 ≡ s
power_one s = let e : s ^ suc zero ≡ s ^ zero * s = pow-suc s zero in let z : s ^ zero ≡ 1 = pow-zero s in e ∙ rw z (omega arith)

pub pow_odd : (s l : ℕ) → l % 2 ≡ 1 → s ^ l ≡ s * (s * s) ^ (l / 2)
pow_odd s l odd =
    let half : l ≡ 1 + (l / 2 + l / 2) = omega arith in
    ap (λ (n : ℕ). s ^ n) half ∙ pow-add s 1 (l / 2 + l / 2) ∙ (let one : s ^ 1 ≡ s = power_one s in rw one (ap (λ (n : ℕ). s * n) (pow-add s (l / 2) (l / 2) ∙ sym (mul-pow s s (l / 2)))))

pub round_even : (p s l m : ℕ) → l % 2 ≡ 0 → p * (s * s % m) ^ (l / 2) % m ≡ p * s ^ l % m
round_even p s l m even =
    sym (mul-mod_second p ((s * s % m) ^ (l / 2)) m) ∙ ap (λ (n : ℕ). p * n % m) (pow-mod (s * s) (l / 2) m) ∙ mul-mod_second p ((s * s) ^ (l / 2)) m ∙ ap (λ (n : ℕ). p * n % m) (sym (pow_even s l even))

pub round_odd : (p s l m : ℕ) → l % 2 ≡ 1 → (p * s % m) * (s * s % m) ^ (l / 2) % m ≡ p * s ^ l % m
round_odd p s l m odd =
    mul-mod_first (p * s) ((s * s % m) ^ (l / 2)) m
    ∙ sym (mul-mod_second (p * s) ((s * s % m) ^ (l / 2)) m)
    ∙ ap (λ (n : ℕ). p * s * n % m) (pow-mod (s * s) (l / 2) m)
    ∙ mul-mod_second (p * s) ((s * s) ^ (l / 2)) m
    ∙ ap (λ (n : ℕ). n % m) (mul_assoc p s ((s * s) ^ (l / 2)) ∙ ap (λ (n : ℕ). p * n) (sym (pow_odd s l odd)))

pub not_zero : (b x : ℕ) → b ≢ 0 → x ≡ (if b == 0 then 0 else x)
not_zero b x h = elim (eqb_tells b 0) [ inl e ↦ absurd (h e.1) | inr e ↦ rw e.0 refl ]

pub parity_round : (odd n k v : ℕ) → n ≡ suc k → (odd + parity n v) % 2 ≡ ((odd + v % 2) % 2 + parity k (v / 2)) % 2
parity_round odd n k v e = rw e (omega arith)

pub remainder_positive : (s : Shape) (a : ℕ) (d : ℤ) → is_negative s a ≡ false → a < 2 ^ s.width → low_bits s.width (int_rem (integer s a) d) ≡ nat_abs (integer s a) % nat_abs d
remainder_positive s a d n h =
    let le : a % nat_abs d ≤ a = mod-le a (nat_abs d) in
    rw (integer_positive s a n) (mod-eq_of_lt (omega arith))
