-- Bits put below other bits.
use Rattle.vlog_meaning.proofs.Common.{◌≡◌, ℕ, zero, suc, ◌+◌, ◌*◌, ◌%◌, ◌<◌, ◌≤◌, ◌^◌, true, false, refl, arith, add-one, pow-add, shl_whole, mul-le-mul_right, nat_tests, clog2, clog2_from, repeated}
use Rattle.std.specs.Prelude.{nat_le}

pub joined_fits : (f k w v : ℕ) → f < 2 ^ k → v < 2 ^ w → f * 2 ^ w + v < 2 ^ (k + w)
joined_fits f k w v small fits =
    let e : 2 ^ (k + w) ≡ 2 ^ k * 2 ^ w = pow-add 2 k w in
    let le : (f + 1) * 2 ^ w ≤ 2 ^ k * 2 ^ w = mul-le-mul_right (2 ^ w) (omega arith) in
    let split : (f + 1) * 2 ^ w ≡ f * 2 ^ w + 2 ^ w = omega arith in
    omega arith

pub shifted_whole : (f k w : ℕ) → f < 2 ^ k → k + w ≤ 128 → f * 2 ^ w % 2 ^ 128 ≡ f * 2 ^ w
shifted_whole f k w small fits = shl_whole f k w 128 small fits

pub times_more : (c w : ℕ) → (c + 1) * w ≡ c * w + w
times_more c w = omega arith

pub times_le : (c n w : ℕ) → c + 1 ≤ n → n * w ≤ 128 → c * w + w ≤ 128
times_le c n w h fits = let le : (c + 1) * w ≤ n * w = mul-le-mul_right w h in omega (arith, times_more c w)

pub repeated_more : (c w v : ℕ) → repeated (c + 1) w v ≡ repeated c w v * 2 ^ w + v
repeated_more c w v = rw add-one refl

pub clog2_more : (fuel f k n : ℕ) → fuel ≡ suc f → 2 ^ k < n → clog2_from fuel k n ≡ clog2_from f (k + 1) n
clog2_more fuel f k n e h = let test : nat_le n (2 ^ k) ≡ false = grind (arith, nat_tests) in rw (e, test) refl

pub clog2_there : (fuel k n : ℕ) → n ≤ 2 ^ k → clog2_from fuel k n ≡ k
clog2_there zero k n h = refl
clog2_there (suc f) k n h = let test : nat_le n (2 ^ k) ≡ true = grind (arith, nat_tests) in rw test refl

pub clog2_begins : (n : ℕ) → clog2_from 128 0 n ≡ clog2 n
unfolding clog2
clog2_begins n = refl
