-- Powers of 2 that fit.
use Rattle.vlog_meaning.proofs.Common.{◌≡◌, ℕ, ◌+◌, ◌-◌, ◌*◌, ◌/◌, ◌%◌, ◌<◌, ◌≤◌, ◌^◌, arith, pow-lt, pow_mono, mod-mod-pow, div-eq_of_lt, mul-mod_left, pow-add, ap, sym, ◌∙◌, mul_assoc}

pub power_fits : (k : ℕ) → k < 128 → 2 ^ k < 2 ^ 128
power_fits k h = pow-lt {i = k} {j = 128} h

pub low_of_low : (n k : ℕ) → k ≤ 128 → n % 2 ^ 128 % 2 ^ k ≡ n % 2 ^ k
low_of_low n k h = let e : 128 - k + k ≡ 128 = omega arith in rw e at (mod-mod-pow n (128 - k) k)

pub power_le : (j k : ℕ) → j ≤ k → 2 ^ j ≤ 2 ^ k
power_le j k h = pow_mono {i = j} {j = k} h

pub no_bits_left : (v p : ℕ) → v < 2 ^ 128 → 128 ≤ p → v / 2 ^ p ≡ 0
no_bits_left v p h wide = let le : 2 ^ 128 ≤ 2 ^ p = power_le 128 p wide in div-eq_of_lt (omega arith)

pub shifted_out : (v p w : ℕ) → w ≤ p → v * 2 ^ p % 2 ^ w ≡ 0
shifted_out v p w h =
    let e : p - w + w ≡ p = omega arith in
    let split : 2 ^ p ≡ 2 ^ (p - w) * 2 ^ w = ap (λ (n : ℕ). 2 ^ n) (sym e) ∙ pow-add 2 (p - w) w in
    rw (split, ← mul_assoc v (2 ^ (p - w)) (2 ^ w)) (mul-mod_left (v * 2 ^ (p - w)) (2 ^ w))
