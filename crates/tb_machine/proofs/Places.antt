-- Numbers of bits that stand side by side.
use Rattle.tb_machine.proofs.Common.{◌≡◌, ℕ, ◌+◌, ◌-◌, ◌*◌, ◌/◌, ◌%◌, ◌<◌, ◌≤◌, ◌^◌, arith, pow-add, pow_pos, mul-add-lt, shl_whole, shr_below}
use Rattle.std.proofs.Math.Pow.{pow_mono}

-- a number behind the places of another
joined_below : (q r j k : ℕ) → q < 2 ^ j → r < 2 ^ k → q * 2 ^ k + r < 2 ^ (k + j)
joined_below q r j k high low = rw (pow-add 2 k j) (mul-add-lt q (2 ^ k) r (2 ^ j) high low)

remainder_below : (v k : ℕ) → v % 2 ^ k < 2 ^ k
remainder_below v k = let some : 0 < 2 ^ k = pow_pos k in omega arith

-- the low bits and those of an update
pub low_and_middle : (v u low width : ℕ) → u < 2 ^ width → v % 2 ^ low + u * 2 ^ low < 2 ^ (low + width)
low_and_middle v u low width fits =
    let below : u * 2 ^ low + v % 2 ^ low < 2 ^ (low + width) = joined_below u (v % 2 ^ low) width low fits (remainder_below v low) in
    omega arith

-- and the high bits
pub all_below : (v u low width wide : ℕ) → v < 2 ^ wide → u < 2 ^ width → low + width ≤ wide → v % 2 ^ low + u * 2 ^ low + v / 2 ^ (low + width) * 2 ^ (low + width) < 2 ^ wide
all_below v u low width wide fits value inside =
    let k = low + width in
    let apart : wide - k + k ≡ wide = omega arith in
    let together : k + (wide - k) ≡ wide = omega arith in
    let within : v < 2 ^ (wide - k + k) = rw apart fits in
    let below : v / 2 ^ k * 2 ^ k + (v % 2 ^ low + u * 2 ^ low) < 2 ^ wide = rw together at (joined_below (v / 2 ^ k) (v % 2 ^ low + u * 2 ^ low) (wide - k) k (shr_below v (wide - k) k within) (low_and_middle v u low width value)) in
    omega arith

pub power_le : (j k : ℕ) → j ≤ k → 2 ^ j ≤ 2 ^ k
power_le j k h = pow_mono {i = j} {j = k} h

pub shifted : (u width low wide : ℕ) → u < 2 ^ width → low + width ≤ wide → wide ≤ 128 → u * 2 ^ low % 2 ^ 128 ≡ u * 2 ^ low
shifted u width low wide fits inside narrow = shl_whole u width low 128 fits (omega arith)

-- a number of all places replaces them all
pub all_replaced : (v value low width wide : ℕ) → v < 2 ^ wide → width ≡ wide → low + width ≤ wide → v % 2 ^ low + value * 2 ^ low + v / 2 ^ (low + width) * 2 ^ (low + width) ≡ value
all_replaced v value low width wide fits is inside =
    let none : low ≡ 0 = omega arith in
    let top : 0 + width ≡ wide = omega arith in
    let all : 0 + wide ≡ wide = omega arith in
    let gone : v / 2 ^ wide < 2 ^ 0 = shr_below v 0 wide (rw all fits) in
    let zero_is : v / 2 ^ wide ≡ 0 = omega (arith, gone) in
    rw (none, top, zero_is) (omega (arith, remainder_below v 0))
