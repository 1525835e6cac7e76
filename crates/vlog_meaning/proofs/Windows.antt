-- Windows of numbers that have bits in common.
use Rattle.vlog_meaning.proofs.Common.{◌≡◌, ℕ, ◌+◌, ◌-◌, ◌*◌, ◌/◌, ◌%◌, ◌<◌, ◌≤◌, ◌^◌, Bool, true, false, ℤ, pos, negsuc, refl, sym, ap, ◌∙◌, arith, nat_le, nat_lt, mod-mod-pow, nat_tests}
use Rattle.vlog_meaning.proofs.Common.{mod-pow-add, mod_low, mod_below, pow_pos, pow-add, shl-shr, shr-shr, shr_high, same_from_bits_below, window, is_among}
use Rattle.std.specs.Int.{bit_at}
use Rattle.vlog_meaning.proofs.Powers.{power_le}

-- a bit, from the lowest bits alone
bit_of_low : (v j : ℕ) → bit_at v j ≡ v % 2 ^ (1 + j) / 2 ^ j
bit_of_low v j = sym (ap (λ (n : ℕ). n / 2 ^ j) (mod-pow-add v 1 j) ∙ shr_high (v / 2 ^ j % 2 ^ 1) j (v % 2 ^ j) (mod_below v (2 ^ j) (pow_pos j)))

cut_bit : (a j v : ℕ) → bit_at (v % 2 ^ (a + (1 + j))) j ≡ bit_at v j
cut_bit a j v = bit_of_low (v % 2 ^ (a + (1 + j))) j ∙ ap (λ (n : ℕ). n / 2 ^ j) (mod-mod-pow v a (1 + j)) ∙ sym (bit_of_low v j)

low_bit : (m j v : ℕ) → j < m → bit_at (v % 2 ^ m) j ≡ bit_at v j
low_bit m j v h = let split : m - (1 + j) + (1 + j) ≡ m = omega arith in ap (λ (n : ℕ). bit_at (v % 2 ^ n) j) (sym split) ∙ cut_bit (m - (1 + j)) j v

-- numbers with the same lowest bits
cut_same : (m v u : ℕ) → ((j : ℕ) → j < m → bit_at v j ≡ bit_at u j) → v % 2 ^ m ≡ u % 2 ^ m
cut_same m v u same = same_from_bits_below m (v % 2 ^ m) (u % 2 ^ m) (mod_below v (2 ^ m) (pow_pos m)) (mod_below u (2 ^ m) (pow_pos m)) (λ j h. low_bit m j v h ∙ same j h ∙ sym (low_bit m j u h))

high_bit : (w v i : ℕ) → v < 2 ^ w → w ≤ i → bit_at v i ≡ 0
high_bit w v i small high =
    let le : 2 ^ w ≤ 2 ^ i = power_le w i high in
    let whole : v ≡ 0 * 2 ^ i + v = omega arith in
    let none : v / 2 ^ i ≡ 0 = ap (λ (n : ℕ). n / 2 ^ i) whole ∙ shr_high 0 i v (omega arith) in
    ap (λ (n : ℕ). n % 2) none

-- bits put k places up, and cut
raised : (k m v : ℕ) → v * 2 ^ k % 2 ^ (m + k) ≡ v % 2 ^ m * 2 ^ k
raised k m v =
    let low : v * 2 ^ k % 2 ^ k ≡ 0 = ap (λ (n : ℕ). n % 2 ^ k) (the_sum v k) ∙ mod_low v k 0 (pow_pos k) in
    mod-pow-add (v * 2 ^ k) m k ∙ ap (λ (n : ℕ). n % 2 ^ m * 2 ^ k + v * 2 ^ k % 2 ^ k) (shl-shr v k) ∙ omega (arith, low)
  where
    the_sum : (v k : ℕ) → v * 2 ^ k ≡ v * 2 ^ k + 0
    the_sum v k = omega arith

-- all bits put above the cut
raised_out : (r m v : ℕ) → v * 2 ^ (r + m) % 2 ^ m ≡ 0
raised_out r m v =
    let split : 2 ^ (r + m) ≡ 2 ^ r * 2 ^ m = pow-add 2 r m in
    let whole : v * 2 ^ (r + m) ≡ v * 2 ^ r * 2 ^ m + 0 = rw split (grind arith) in
    ap (λ (n : ℕ). n % 2 ^ m) whole ∙ mod_low (v * 2 ^ r) m 0 (pow_pos m)

raised_same : (k size v u : ℕ) → ((j : ℕ) → j + k < size → bit_at v j ≡ bit_at u j) → v * 2 ^ k % 2 ^ size ≡ u * 2 ^ k % 2 ^ size
raised_same k size v u same = go (nat_le k size) refl
  where
    go : (b : Bool) → nat_le k size ≡ b → v * 2 ^ k % 2 ^ size ≡ u * 2 ^ k % 2 ^ size
    go true e =
        let le : k ≤ size = grind (arith, nat_tests) in
        let split : size - k + k ≡ size = omega arith in
        let all = cut_same (size - k) v u (λ j h. same j (omega arith)) in
        ap (λ (n : ℕ). v * 2 ^ k % 2 ^ n) (sym split) ∙ raised k (size - k) v ∙ ap (λ (n : ℕ). n * 2 ^ k) all ∙ sym (raised k (size - k) u) ∙ ap (λ (n : ℕ). u * 2 ^ k % 2 ^ n) split
    go false e =
        let lt : size < k = grind (arith, nat_tests) in
        let split : k - size + size ≡ k = omega arith in
        ap (λ (n : ℕ). v * 2 ^ n % 2 ^ size) (sym split) ∙ raised_out (k - size) size v ∙ sym (raised_out (k - size) size u) ∙ ap (λ (n : ℕ). u * 2 ^ n % 2 ^ size) split

-- numbers of one width with the same bits among so many from a place on
pub window_same : (from : ℤ) (size width v u : ℕ) → v < 2 ^ width → u < 2 ^ width → ((i : ℕ) → i < width → is_among from size i ≡ true → bit_at v i ≡ bit_at u i) → window from size v ≡ window from size u
window_same (pos from) size width v u small small_too same = cut_same size (v / 2 ^ from) (u / 2 ^ from) (λ j h. ap (λ (n : ℕ). n % 2) (shr-shr v from j) ∙ at (from + j) (omega arith) (omega arith) ∙ sym (ap (λ (n : ℕ). n % 2) (shr-shr u from j)))
  where
    at : (i : ℕ) → from ≤ i → i < from + size → bit_at v i ≡ bit_at u i
    at i h k = go (nat_lt i width) refl
      where
        go : (b : Bool) → nat_lt i width ≡ b → bit_at v i ≡ bit_at u i
        go true e = same i (grind (arith, nat_tests)) (grind (arith, nat_tests))
        go false e = high_bit width v i small (grind (arith, nat_tests)) ∙ sym (high_bit width u i small_too (grind (arith, nat_tests)))
window_same (negsuc n) size width v u small small_too same = raised_same (n + 1) size v u (λ j h. at j h)
  where
    at : (i : ℕ) → i + (n + 1) < size → bit_at v i ≡ bit_at u i
    at i h = go (nat_lt i width) refl
      where
        go : (b : Bool) → nat_lt i width ≡ b → bit_at v i ≡ bit_at u i
        go true e = same i (grind (arith, nat_tests)) (grind (arith, nat_tests))
        go false e = high_bit width v i small (grind (arith, nat_tests)) ∙ sym (high_bit width u i small_too (grind (arith, nat_tests)))
