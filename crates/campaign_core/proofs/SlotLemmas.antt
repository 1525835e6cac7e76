-- Slots, one of which has something else.
use Rattle.campaign_core.proofs.Common.{◌≡◌, ◌≢◌, inl, inr, arith, ℕ, zero, suc, ◌+◌, ◌<◌, Bool, true, false, true≢false, ◌||◌, cond, List, [], ◌∷◌, length, map, set, slice_get, Option, None, Some}
use Rattle.campaign_core.proofs.Common.{refl, sym, ◌∙◌, ap, ◌⊎◌, ◌==◌, is_some, eqb_tells, sum_by-cons, asked_and_word, Asked, Busy, IsIn, busy_count, is_in_slot, is_of}

some_is : {X : Type 0} (x y : X) → Some x ≡ Some y → x ≡ y
some_is x y e = cc

-- ---- places of a list

pub inside : {X : Type 0} (xs : List X) (k : ℕ) (x : X) → slice_get xs k ≡ Some x → k < length xs
inside [] k x at = absurd (let never : None ≡ Some x = at in cc)
inside (y ∷ xs) zero x at = omega arith
inside (y ∷ xs) (suc k) x at = omega (arith, inside xs k x at)

pub set_here : {X : Type 0} (xs : List X) (k : ℕ) (x : X) → k < length xs → slice_get (set xs k x) k ≡ Some x
set_here [] k x within = absurd (omega arith)
set_here (y ∷ xs) zero x within = refl
set_here (y ∷ xs) (suc k) x within = set_here xs k x (omega arith)

pub set_other : {X : Type 0} (xs : List X) (k j : ℕ) (x : X) → j ≢ k → slice_get (set xs k x) j ≡ slice_get xs j
set_other [] k j x other = refl
set_other (y ∷ xs) zero zero x other = absurd (other refl)
set_other (y ∷ xs) zero (suc j) x other = refl
set_other (y ∷ xs) (suc k) zero x other = refl
set_other (y ∷ xs) (suc k) (suc j) x other = set_other xs k j x (λ same. other (ap suc same))

pub length_set : {X : Type 0} (xs : List X) (k : ℕ) (x : X) → length (set xs k x) ≡ length xs
length_set [] k x = refl
length_set (y ∷ xs) zero x = refl
length_set (y ∷ xs) (suc k) x = ap suc (length_set xs k x)

-- ---- one slot has a test

module _ (slots : List (Option Busy)) (k : ℕ) (within : k < length slots) where
  -- a test in the slots afterwards is the new one or an old one
  pub in_set : (v : Option Busy) (j : ℕ) (b : Busy) → IsIn (set slots k v) j b → ((j ≡ k) × (v ≡ Some b)) ⊎ ((j ≢ k) × IsIn slots j b)
  in_set v j b at = elim (eqb_tells j k) [
    | inl h ↦ inl (h.1, some_is v (Some b) (sym (set_here slots k v within) ∙ ap (λ (i : ℕ). slice_get (set slots k v) i) (sym h.1) ∙ at))
    | inr h ↦ inr (h.1, sym (set_other slots k j v h.1) ∙ at)
  ]

-- ---- how many are busy

abbrev count_of : Option Busy → ℕ
count_of slot = cond (is_some slot) 1 0

pub count_first : (x : Option Busy) (xs : List (Option Busy)) → busy_count (x ∷ xs) ≡ cond (is_some x) 1 0 + busy_count xs
count_first x xs = sum_by-cons (λ (slot : Option Busy). cond (is_some slot) 1 0) x xs

-- a slot that was so and is so now
pub count_set : (slots : List (Option Busy)) (k : ℕ) (old new : Option Busy) → slice_get slots k ≡ Some old → busy_count (set slots k new) + cond (is_some old) 1 0 ≡ busy_count slots + cond (is_some new) 1 0
count_set [] k old new at = absurd (let never : None ≡ Some old = at in cc)
count_set (x ∷ slots) zero old new at =
    let is : x ≡ old = some_is x old at in
    omega (arith, count_first new slots, count_first x slots, ap count_of is)
count_set (x ∷ slots) (suc k) old new at = omega (arith, count_first x (set slots k new), count_first x slots, count_set slots k old new at)

-- ---- which mutations are in slots

or_true : (b : Bool) → (b || true) ≡ true
or_true true = refl
or_true false = refl

-- a slot that had another mutation, or none, and has another now
pub in_slot_same : (m : ℕ) (slots : List (Option Busy)) (k : ℕ) (old new : Option Busy) → slice_get slots k ≡ Some old → is_of m old ≡ is_of m new → is_in_slot m (set slots k new) ≡ is_in_slot m slots
in_slot_same m [] k old new at same = absurd (let never : None ≡ Some old = at in cc)
in_slot_same m (x ∷ slots) zero old new at same =
    let is : x ≡ old = some_is x old at in
    ap (λ (b : Bool). b || is_in_slot m slots) (sym same ∙ ap (is_of m) (sym is))
in_slot_same m (x ∷ slots) (suc k) old new at same = ap (λ (b : Bool). is_of m x || b) (in_slot_same m slots k old new at same)

pub in_slot_now : (m : ℕ) (slots : List (Option Busy)) (k : ℕ) (v : Option Busy) → k < length slots → is_of m v ≡ true → is_in_slot m (set slots k v) ≡ true
in_slot_now m [] k v within is = absurd (omega arith)
in_slot_now m (x ∷ slots) zero v within is = ap (λ (b : Bool). b || is_in_slot m slots) is
in_slot_now m (x ∷ slots) (suc k) v within is = ap (λ (b : Bool). is_of m x || b) (in_slot_now m slots k v (omega arith) is) ∙ or_true (is_of m x)

pub in_no_slot : (m : ℕ) (slots : List (Option Busy)) → ((j : ℕ) (b : Busy) → IsIn slots j b → b.asked.mutation ≢ m) → is_in_slot m slots ≡ false
in_no_slot m [] none = refl
in_no_slot m (x ∷ slots) none =
    let rest = in_no_slot m slots (λ j b at. none (suc j) b at) in
    ap (λ (b : Bool). b || is_in_slot m slots) (first x refl) ∙ rest
  where
    first : (y : Option Busy) → x ≡ y → is_of m x ≡ false
    first None is = ap (is_of m) is
    first (Some b) is = ap (is_of m) is ∙ elim (eqb_tells b.asked.mutation m) [ inl h ↦ absurd (none 0 b (ap Some is) h.1) | inr h ↦ h.0 ]

-- a mutation in no slot is that of no test in one
pub not_in_slot : (m : ℕ) (slots : List (Option Busy)) → is_in_slot m slots ≡ false → (j : ℕ) (b : Busy) → IsIn slots j b → b.asked.mutation ≢ m
not_in_slot m [] none j b at same = absurd (let never : None ≡ Some (Some b) = at in cc)
not_in_slot m (x ∷ slots) none zero b at same =
    let is : x ≡ Some b = some_is x (Some b) at in
    absurd (true≢false (sym (elim (eqb_tells b.asked.mutation m) [ inl h ↦ ap (λ (o : Option Busy). is_of m o || is_in_slot m slots) is ∙ ap (λ (t : Bool). t || is_in_slot m slots) h.0 | inr h ↦ absurd (h.1 same) ]) ∙ none))
not_in_slot m (x ∷ slots) none (suc j) b at same = not_in_slot m slots (second (is_of m x) none) j b at same
  where
    second : (t : Bool) → (t || is_in_slot m slots) ≡ false → is_in_slot m slots ≡ false
    second true e = absurd (true≢false e)
    second false e = e

-- and one in a slot is
pub is_in : (m : ℕ) (slots : List (Option Busy)) (j : ℕ) (b : Busy) → IsIn slots j b → b.asked.mutation ≡ m → is_in_slot m slots ≡ true
is_in m [] j b at same = absurd (let never : None ≡ Some (Some b) = at in cc)
is_in m (x ∷ slots) zero b at same =
    let is : x ≡ Some b = some_is x (Some b) at in
    ap (λ (o : Option Busy). is_of m o || is_in_slot m slots) is ∙ elim (eqb_tells b.asked.mutation m) [ inl h ↦ ap (λ (t : Bool). t || is_in_slot m slots) h.0 | inr h ↦ absurd (h.1 same) ]
is_in m (x ∷ slots) (suc j) b at same = ap (λ (t : Bool). is_of m x || t) (is_in m slots j b at same) ∙ or_true (is_of m x)

-- the same tests are in the same slots
pub same_tests_in : (m : ℕ) (xs ys : List (Option Busy)) → map asked_and_word xs ≡ map asked_and_word ys → is_in_slot m xs ≡ is_in_slot m ys
same_tests_in m [] [] e = refl
same_tests_in m [] (y ∷ ys) e = absurd (let never : [] ≡ asked_and_word y ∷ map asked_and_word ys = e in cc)
same_tests_in m (x ∷ xs) [] e = absurd (let never : asked_and_word x ∷ map asked_and_word xs ≡ [] = e in cc)
same_tests_in m (x ∷ xs) (y ∷ ys) e =
    let h : asked_and_word x ∷ map asked_and_word xs ≡ asked_and_word y ∷ map asked_and_word ys = e in
    let first : asked_and_word x ≡ asked_and_word y = cc in
    let rest : map asked_and_word xs ≡ map asked_and_word ys = cc in
    ap (λ (b : Bool). b || is_in_slot m xs) (one x y first) ∙ ap (λ (b : Bool). is_of m y || b) (same_tests_in m xs ys rest)
  where
    asked_is : (a b : Busy) → asked_and_word (Some a) ≡ asked_and_word (Some b) → a.asked ≡ b.asked
    asked_is a b same = ap (λ (p : Asked × Option ℕ). p.0) (some_is {X = Asked × Option ℕ} (a.asked, a.word) (b.asked, b.word) same)

    one : (a b : Option Busy) → asked_and_word a ≡ asked_and_word b → is_of m a ≡ is_of m b
    one None None same = refl
    one None (Some b) same = absurd (let never : None ≡ Some (b.asked, b.word) = same in cc)
    one (Some a) None same = absurd (let never : Some (a.asked, a.word) ≡ None = same in cc)
    one (Some a) (Some b) same = ap (λ (x : Asked). x.mutation == m) (asked_is a b same)
