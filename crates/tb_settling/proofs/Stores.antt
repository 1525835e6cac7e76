-- The bits of a store in which updates were applied, and updates that hold in a store.
use Rattle.tb_settling.proofs.Common.{◌≡◌, suc, ℕ, ◌+◌, ◌-◌, ◌^◌, ◌<◌, ◌≤◌, Bool, true, false, ◌&&◌, ◌||◌, nat_le, nat_lt, List, [], ◌∷◌, length, refl, sym, ap, ◌∙◌, inl, inr, arith, slice_index}
use Rattle.tb_settling.proofs.Common.{if◌then◌else◌, All, bit_at, cases_lt, or_parts, cases_Bool, eqb_tells, nat_tests, length-set, get_or-set_same, get_or-set_other, All-head, All-tail}
use Rattle.tb_settling.proofs.Common.{same_from_bits, Update, replaced, applied, all_applied, gives, some_gives, Fits, Hold}
use Rattle.tb_settling.proofs.Replacing.{bit_inside, bit_below, bit_above}

-- bit i of signal n
abbrev pub store_bit : List ℕ → ℕ → ℕ → ℕ
store_bit s n i = bit_at (slice_index s n) i

-- the bit that an update leaves, and updates one after the other, where it was this one before
abbrev pub left_by : Update → ℕ → ℕ → ℕ → ℕ
left_by u n i b = if gives u n i then bit_at u.value (i - u.low) else b

abbrev pub all_left : List Update → ℕ → ℕ → ℕ → ℕ
all_left [] n i b = b
all_left (u ∷ us) n i b = all_left us n i (left_by u n i b)

within : (a b i : ℕ) → a ≤ i → i < b → (nat_le a i && nat_lt i b) ≡ true
within a b i h k = grind (arith, nat_tests)

below : (a b i : ℕ) → i < a → (nat_le a i && nat_lt i b) ≡ false
below a b i h = grind (arith, nat_tests)

above : (a b i : ℕ) → b ≤ i → (nat_le a i && nat_lt i b) ≡ false
above a b i h = grind (arith, nat_tests)

-- the bit of a value
value_bit : (v : ℕ) (u : Update) (i : ℕ) → u.value < 2 ^ u.width → bit_at (replaced v u) i ≡ (if nat_le u.low i && nat_lt i (u.low + u.width) then bit_at u.value (i - u.low) else bit_at v i)
value_bit v u i fits = elim (cases_lt i u.low) [
  | inl low ↦ rw (below u.low (u.low + u.width) i low) (bit_below v u fits i low)
  | inr from ↦ elim (cases_lt i (u.low + u.width)) [
    | inl inside ↦ rw (within u.low (u.low + u.width) i from inside) (bit_inside v u fits i from inside)
    | inr past ↦ rw (above u.low (u.low + u.width) i past) (bit_above v u fits i past)
  ]
]

pub applied_bit : (s : List ℕ) (u : Update) (n i : ℕ) → u.signal < length s → u.value < 2 ^ u.width → store_bit (applied s u) n i ≡ left_by u n i (store_bit s n i)
applied_bit s u n i known fits = elim (eqb_tells n u.signal) [
  | inl same ↦
      ap (λ (k : ℕ). bit_at (slice_index (applied s u) k) i) same.1
      ∙ ap (λ (v : ℕ). bit_at v i) (get_or-set_same s u.signal (replaced (slice_index s u.signal) u) 0 known)
      ∙ value_bit (slice_index s u.signal) u i fits
      ∙ ap (λ (k : ℕ). if nat_le u.low i && nat_lt i (u.low + u.width) then bit_at u.value (i - u.low) else bit_at (slice_index s k) i) (sym same.1)
      ∙ ap (λ (b : Bool). if b && (nat_le u.low i && nat_lt i (u.low + u.width)) then bit_at u.value (i - u.low) else store_bit s n i) (sym same.0)
  | inr other ↦
      ap (λ (v : ℕ). bit_at v i) (get_or-set_other s u.signal n (replaced (slice_index s u.signal) u) 0 other.1)
      ∙ ap (λ (b : Bool). if b && (nat_le u.low i && nat_lt i (u.low + u.width)) then bit_at u.value (i - u.low) else store_bit s n i) (sym other.0)
]

length_applied : (s : List ℕ) (u : Update) → length (applied s u) ≡ length s
length_applied s u = length-set s u.signal (replaced (slice_index s u.signal) u)

pub length_all : (us : List Update) (s : List ℕ) → length (all_applied s us) ≡ length s
length_all [] s = refl
length_all (u ∷ us) s = length_all us (applied s u) ∙ length_applied s u

pub all_bits : (widths : List ℕ) (us : List Update) (s : List ℕ) (n i : ℕ) → length widths ≡ length s → All (Fits widths) us → store_bit (all_applied s us) n i ≡ all_left us n i (store_bit s n i)
all_bits widths [] s n i long fits = refl
all_bits widths (u ∷ us) s n i long fits =
    let here : Fits widths u = All-head (Fits widths) u us fits in
    all_bits widths us (applied s u) n i (long ∙ sym (length_applied s u)) (All-tail (Fits widths) u us fits)
    ∙ ap (all_left us n i) (applied_bit s u n i (let known = here.known in omega (arith, known, long)) here.value)

given_next : (u : Update) (us : List Update) (n i b c : ℕ) (g : Bool) → gives u n i ≡ g → (some_gives us n i ≡ true → (x y : ℕ) → all_left us n i x ≡ all_left us n i y) → (g || some_gives us n i) ≡ true → all_left us n i (left_by u n i b) ≡ all_left us n i (left_by u n i c)
given_next u us n i b c true e rest h = ap (all_left us n i) (ap (λ (g : Bool). if g then bit_at u.value (i - u.low) else b) e ∙ sym (ap (λ (g : Bool). if g then bit_at u.value (i - u.low) else c) e))
given_next u us n i b c false e rest h = rest h (left_by u n i b) (left_by u n i c)

-- a bit that is given a value has this value, whatever it was, and any other stays
pub left_given : (us : List Update) (n i b c : ℕ) → some_gives us n i ≡ true → all_left us n i b ≡ all_left us n i c
left_given [] n i b c h = absurd cc
left_given (u ∷ us) n i b c h = given_next u us n i b c (gives u n i) refl (λ later x y. left_given us n i x y later) h

pub left_other : (us : List Update) (n i b : ℕ) → some_gives us n i ≡ false → all_left us n i b ≡ b
left_other [] n i b h = refl
left_other (u ∷ us) n i b h =
    let both = or_parts (gives u n i) (some_gives us n i) h in
    left_other us n i (left_by u n i b) both.1 ∙ ap (λ (g : Bool). if g then bit_at u.value (i - u.low) else b) both.0

-- stores with the same bits
pub same_store : (s t : List ℕ) → length s ≡ length t → ((n i : ℕ) → store_bit s n i ≡ store_bit t n i) → s ≡ t
same_store [] [] long same = refl
same_store [] (y ∷ ys) long same = absurd (omega (arith, long))
same_store (x ∷ xs) [] long same = absurd (omega (arith, long))
same_store (x ∷ xs) (y ∷ ys) long same =
    let first : x ≡ y = same_from_bits x y (λ i. same 0 i) in
    let rest : xs ≡ ys = same_store xs ys (omega (arith, long)) (λ n i. same (suc n) i) in
    ap (λ (z : ℕ). z ∷ xs) first ∙ ap (λ (l : List ℕ). y ∷ l) rest

-- Updates that hold.

module _ (widths : List ℕ) (us : List Update) (fits : All (Fits widths) us) where
  pub other_bit : (s : List ℕ) (n i : ℕ) → length widths ≡ length s → some_gives us n i ≡ false → store_bit (all_applied s us) n i ≡ store_bit s n i
  other_bit s n i long h = all_bits widths us s n i long fits ∙ left_other us n i (store_bit s n i) h

  pub given_bit : (s : List ℕ) (n i b : ℕ) → length widths ≡ length s → some_gives us n i ≡ true → store_bit (all_applied s us) n i ≡ all_left us n i b
  given_bit s n i b long h = all_bits widths us s n i long fits ∙ left_given us n i (store_bit s n i) b h

  pub hold_bit : (s : List ℕ) (n i b : ℕ) → length widths ≡ length s → Hold s us → some_gives us n i ≡ true → store_bit s n i ≡ all_left us n i b
  hold_bit s n i b long hold h = ap (λ (l : List ℕ). store_bit l n i) (sym hold) ∙ given_bit s n i b long h

  -- where each bit that is given has its value, the updates hold
  pub holds_from : (s : List ℕ) → length widths ≡ length s → ((n i : ℕ) → some_gives us n i ≡ true → store_bit s n i ≡ all_left us n i 0) → Hold s us
  holds_from s long given = same_store (all_applied s us) s (length_all us s) (λ n i. elim (cases_Bool (some_gives us n i)) [
    | inl h ↦ given_bit s n i 0 long h ∙ sym (given n i h)
    | inr h ↦ other_bit s n i long h
  ])

  -- they hold where they were applied
  pub holds_after : (s : List ℕ) → length widths ≡ length s → Hold (all_applied s us) us
  holds_after s long = holds_from (all_applied s us) (long ∙ sym (length_all us s)) (λ n i h. given_bit s n i 0 long h)

  -- and where the bits that are given are the same
  pub hold_moves : (s t : List ℕ) → length widths ≡ length s → length widths ≡ length t → Hold s us → ((n i : ℕ) → some_gives us n i ≡ true → store_bit t n i ≡ store_bit s n i) → Hold t us
  hold_moves s t long long_too hold same = holds_from t long_too (λ n i h. same n i h ∙ hold_bit s n i 0 long hold h)
