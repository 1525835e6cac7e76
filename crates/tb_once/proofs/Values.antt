-- Values of signals stay within their widths where updates apply.
use Rattle.tb_once.proofs.Common.{◌≡◌, ℕ, suc, ◌+◌, ◌-◌, ◌*◌, ◌/◌, ◌%◌, ◌<◌, ◌≤◌, ◌^◌, Bool, false, ◌&&◌, ◌||◌, nat_le, nat_lt, List, [], ◌∷◌, map, length, set, refl, ap, sym, ◌∙◌, subst, inl, inr}
use Rattle.tb_once.proofs.Common.{arith, slice_index, All, length-set, get_or-set_same, get_or-set_other, All-head, All-tail, pow_pos, shr_split, same_from_bits, bit_at_cat_high, bit_at-zero, Word}
use Rattle.tb_once.proofs.Common.{Update, replaced, applied, all_applied, gives, some_gives, Fits, all_below, AreValues}
use Rattle.std.specs.Int.{bit_at}
use Rattle.std.proofs.lemmas.Bool.Decides.{eqb_tells, nat_tests}
use Rattle.tb_settling.proofs.Planning.{fits_at}

-- one value more, below 2 to its width
pub value_set : (widths store : List ℕ) (k v : ℕ) → k < length widths → v < 2 ^ slice_index widths k → AreValues widths store → AreValues widths (set store k v)
value_set widths store k v known below values = record {
  long = length-set store k v ∙ values.long;
  within = λ j. elim (eqb_tells j k) [
    | inl same ↦
        let here : slice_index (set store k v) k ≡ v = get_or-set_same store k v 0 (omega (arith, known, values.long)) in
        subst (λ (n : ℕ). slice_index (set store k v) n < 2 ^ slice_index widths n) (sym same.1) (rw here below)
    | inr other ↦
        let there : slice_index (set store k v) j ≡ slice_index store j = get_or-set_other store k j v 0 other.1 in
        rw there (values.within j)
  ];
}

pub values_applied : (widths : List ℕ) (us : List Update) (store : List ℕ) → All (Fits widths) us → AreValues widths store → AreValues widths (all_applied store us)
values_applied widths [] store fits values = values
values_applied widths (u ∷ us) store fits values =
    let here : Fits widths u = All-head (Fits widths) u us fits in
    let below : replaced (slice_index store u.signal) u < 2 ^ slice_index widths u.signal = all_below (slice_index store u.signal) u.value u.low u.width (slice_index widths u.signal) (values.within u.signal) here.value here.inside in
    values_applied widths us (applied store u) (All-tail (Fits widths) u us fits) (value_set widths store u.signal (replaced (slice_index store u.signal) u) here.known below values)

-- the values of words
word_lengths : (ws : List Word) → length (map (λ w. w.bits) ws) ≡ length (map (λ w. w.width) ws)
word_lengths [] = refl
word_lengths (x ∷ xs) = ap suc (word_lengths xs)

pub values_of_words : (ws : List Word) → AreValues (map (λ w. w.width) ws) (map (λ w. w.bits) ws)
values_of_words ws = record { long = word_lengths ws; within = fits_at ws }

-- Bits past the width of a signal.

past_end : (low width i : ℕ) → low + width ≤ i → (nat_le low i && nat_lt i (low + width)) ≡ false
past_end low width i past = grind (arith, nat_tests)

pub not_given : (u : Update) (n i : ℕ) → (n ≡ u.signal → u.low + u.width ≤ i) → gives u n i ≡ false
not_given u n i past = elim (eqb_tells n u.signal) [
  | inl same ↦ ap (λ (b : Bool). b && (nat_le u.low i && nat_lt i (u.low + u.width))) same.0 ∙ past_end u.low u.width i (past same.1)
  | inr other ↦ ap (λ (b : Bool). b && (nat_le u.low i && nat_lt i (u.low + u.width))) other.0
]

pub none_given : (u : Update) (us : List Update) (n i : ℕ) → gives u n i ≡ false → some_gives us n i ≡ false → some_gives (u ∷ us) n i ≡ false
none_given u us n i first rest = ap (λ (b : Bool). b || some_gives us n i) first ∙ rest

-- updates that fit give no bit past the width
pub none_past : (widths : List ℕ) (us : List Update) (n i : ℕ) → All (Fits widths) us → slice_index widths n ≤ i → some_gives us n i ≡ false
none_past widths [] n i fits past = refl
none_past widths (u ∷ us) n i fits past =
    let here : Fits widths u = All-head (Fits widths) u us fits in
    none_given u us n i (not_given u n i (λ same. let wide : slice_index widths n ≡ slice_index widths u.signal = ap (slice_index widths) same in omega (arith, here.inside, wide, past))) (none_past widths us n i (All-tail (Fits widths) u us fits) past)

-- a number whose bits from a place on are 0 is below 2 to the place
pub below_from_bits : (v w : ℕ) → ((i : ℕ) → w ≤ i → bit_at v i ≡ 0) → v < 2 ^ w
below_from_bits v w high =
    let q = v / 2 ^ w in
    let r = v % 2 ^ w in
    let some : 0 < 2 ^ w = pow_pos w in
    let small : r < 2 ^ w = omega arith in
    let bits : (j : ℕ) → bit_at q j ≡ bit_at 0 j = λ j.
    let at : j + w - w ≡ j = omega arith in
    let up : bit_at (q * 2 ^ w + r) (j + w) ≡ bit_at q (j + w - w) = bit_at_cat_high q w r (j + w) small (omega arith) in
    let here : bit_at v (j + w) ≡ bit_at q j = ap (λ (n : ℕ). bit_at n (j + w)) (sym (shr_split v w)) ∙ up ∙ ap (bit_at q) at in
    sym here ∙ high (j + w) (omega arith) ∙ sym (bit_at-zero j) in
    let none : q ≡ 0 = same_from_bits q 0 bits in
    let whole : v ≡ 0 * 2 ^ w + r = sym (shr_split v w) ∙ ap (λ (n : ℕ). n * 2 ^ w + r) none in
    omega (arith, whole, small)
