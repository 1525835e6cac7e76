-- The bits of a value some of whose bits were replaced.
use Rattle.tb_settling.proofs.Common.{◌≡◌, ℕ, ◌+◌, ◌-◌, ◌*◌, ◌/◌, ◌%◌, ◌^◌, ◌<◌, ◌≤◌, sym, ap, ◌∙◌, arith, div-add-mod', mod-lt, bit_at, pow_pos, bit_at_cat_low, bit_at_cat_high, Update, replaced}
use Rattle.tb_machine.proofs.Places.{low_and_middle}

-- the lower bits of a number, and the higher ones
low_bit : (v k i : ℕ) → i < k → bit_at (v % 2 ^ k) i ≡ bit_at v i
low_bit v k i h = sym (bit_at_cat_low (v / 2 ^ k) k (v % 2 ^ k) i h) ∙ ap (λ (x : ℕ). bit_at x i) (div-add-mod' v (2 ^ k))

high_bit : (v k i : ℕ) → k ≤ i → bit_at (v / 2 ^ k) (i - k) ≡ bit_at v i
high_bit v k i h = sym (bit_at_cat_high (v / 2 ^ k) k (v % 2 ^ k) i (mod-lt v (pow_pos k)) h) ∙ ap (λ (x : ℕ). bit_at x i) (div-add-mod' v (2 ^ k))

turned : (a b c : ℕ) → a + b + c ≡ c + (a + b)
turned a b c = omega arith

module _ (v : ℕ) (u : Update) (fits : u.value < 2 ^ u.width) where
  parts : replaced v u ≡ v / 2 ^ (u.low + u.width) * 2 ^ (u.low + u.width) + (v % 2 ^ u.low + u.value * 2 ^ u.low)
  parts = turned (v % 2 ^ u.low) (u.value * 2 ^ u.low) (v / 2 ^ (u.low + u.width) * 2 ^ (u.low + u.width))

  middle : (i : ℕ) → i < u.low + u.width → bit_at (replaced v u) i ≡ bit_at (u.value * 2 ^ u.low + v % 2 ^ u.low) i
  middle i h = ap (λ (x : ℕ). bit_at x i) parts ∙ bit_at_cat_low (v / 2 ^ (u.low + u.width)) (u.low + u.width) (v % 2 ^ u.low + u.value * 2 ^ u.low) i h ∙ ap (λ (x : ℕ). bit_at x i) (swap (v % 2 ^ u.low) (u.value * 2 ^ u.low))
    where
      swap : (a b : ℕ) → a + b ≡ b + a
      swap a b = omega arith

  pub bit_inside : (i : ℕ) → u.low ≤ i → i < u.low + u.width → bit_at (replaced v u) i ≡ bit_at u.value (i - u.low)
  bit_inside i from h = middle i h ∙ bit_at_cat_high u.value u.low (v % 2 ^ u.low) i (mod-lt v (pow_pos u.low)) from

  pub bit_below : (i : ℕ) → i < u.low → bit_at (replaced v u) i ≡ bit_at v i
  bit_below i h = middle i (omega (arith, h)) ∙ bit_at_cat_low u.value u.low (v % 2 ^ u.low) i h ∙ low_bit v u.low i h

  pub bit_above : (i : ℕ) → u.low + u.width ≤ i → bit_at (replaced v u) i ≡ bit_at v i
  bit_above i h = ap (λ (x : ℕ). bit_at x i) parts ∙ bit_at_cat_high (v / 2 ^ (u.low + u.width)) (u.low + u.width) (v % 2 ^ u.low + u.value * 2 ^ u.low) i (low_and_middle v u.value u.low u.width fits) h ∙ high_bit v (u.low + u.width) i h
