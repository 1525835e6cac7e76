-- The leads of blocks of mutations, and the least mutation that waits.
use Rattle.campaign_core.proofs.Common.{◌≡◌, ◌≢◌, inl, inr, arith, ℕ, zero, suc, ◌+◌, ◌*◌, ◌/◌, ◌<◌, ◌≤◌, Bool, true, false, true≢false, ◌&&◌, List, [], ◌∷◌, length, get_or, set, slice_get, Option}
use Rattle.campaign_core.proofs.Common.{None, Some, refl, sym, ◌∙◌, ap, subst, MatchOption, is_some, option_and_then, option_map, position_from, option_eq, and_parts, eqb_tells, slice_get-get_or}
use Rattle.campaign_core.proofs.Common.{Want, AreLeads, IsLead, NoneWaits, block_size, want_at, below_or_not}
use Rattle.std.proofs.Common.{◌==◌}
use Rattle.campaign_core.proofs.SlotLemmas.{length_set, set_here, set_other}

-- ---- the least by its place

-- none waits, or this one is the first
abbrev IsFirst : List (Option Want) → Option ℕ → Type 0
IsFirst wants r = MatchOption r ((k : ℕ) → want_at wants k ≡ None) (λ k. (is_some (want_at wants k) ≡ true) × ((j : ℕ) → j < k → want_at wants j ≡ None))

none_waits : is_some {T = Want} None ≡ true → ⊥
none_waits e = true≢false (sym e)

first_place : (wants : List (Option Want)) (i : ℕ) (r : Option ℕ) → IsFirst wants r → option_map (λ k. i + k) r ≡ position_from is_some i wants
first_place [] i None h = refl
first_place [] i (Some k) h = absurd (none_waits h.0)
first_place (None ∷ wants) i None h = first_place wants (i + 1) None (λ k. h (suc k))
first_place (None ∷ wants) i (Some zero) h = absurd (none_waits h.0)
first_place (None ∷ wants) i (Some (suc k)) h =
    let shift : i + suc k ≡ (i + 1) + k = omega arith in
    ap (λ (n : ℕ). Some n) shift ∙ first_place wants (i + 1) (Some k) (h.0, λ j below. h.1 (suc j) (omega (arith, below)))
first_place (Some w ∷ wants) i None h = absurd (let never : Some w ≡ None = h 0 in cc)
first_place (Some w ∷ wants) i (Some zero) h = let same : i + 0 ≡ i = omega arith in ap (λ (n : ℕ). Some n) same
first_place (Some w ∷ wants) i (Some (suc k)) h = absurd (let never : Some w ≡ None = h.1 0 (omega arith) in cc)

-- ---- beyond the last

pub beyond : (wants : List (Option Want)) (k : ℕ) → length wants ≤ k → want_at wants k ≡ None
beyond [] k past = refl
beyond (w ∷ wants) zero past = absurd (omega arith)
beyond (w ∷ wants) (suc k) past = beyond wants k (omega arith)

-- the least behind some of which none waits
pub lead_behind : (wants : List (Option Want)) (from mid to : ℕ) (lead : Option ℕ) → from ≤ mid → NoneWaits wants from mid → IsLead wants mid to lead → IsLead wants from to lead
lead_behind wants from mid to None order none is = λ k low high. elim (below_or_not k mid) [ inl h ↦ none k low h | inr h ↦ is k (omega (arith, h)) high ]
lead_behind wants from mid to (Some m) order none is = record {
  low = omega (arith, order, is.low);
  high = is.high;
  waits = is.waits;
  none_before = λ k low high. elim (below_or_not k mid) [ inl h ↦ none k low h | inr h ↦ is.none_before k (omega (arith, h)) high ];
}

-- the least of all is the first
pub least_is : (wants : List (Option Want)) (to : ℕ) (lead : Option ℕ) → length wants ≤ to → IsLead wants 0 to lead → lead ≡ position_from is_some 0 wants
least_is wants to None enough is = first_place wants 0 None (λ k. elim (below_or_not k to) [ inl h ↦ is k (omega arith) h | inr h ↦ beyond wants k (omega (arith, h, enough)) ])
least_is wants to (Some m) enough is =
    let same : 0 + m ≡ m = omega arith in
    sym (ap (λ (n : ℕ). Some n) same) ∙ first_place wants 0 (Some m) (is.waits, λ j below. is.none_before j (omega arith) below)

-- ---- lead after lead

-- a lead tells of its block
lead_at : (wants : List (Option Want)) (leads : List (Option ℕ)) (b : ℕ) (none : Option ℕ) → AreLeads wants leads → b < length leads → IsLead wants (block_size * b) (block_size * b + block_size) (get_or leads b none)
lead_at wants leads b none are within = are.each b (get_or leads b none) (slice_get-get_or leads b none within)

some_first : (wants : List (Option Want)) (to : ℕ) (lead : Option ℕ) → IsLead wants 0 to lead → is_some lead ≡ true → lead ≡ position_from is_some 0 wants
some_first wants to None is some = absurd (none_waits some)
some_first wants to (Some m) is some =
    let same : 0 + m ≡ m = omega arith in
    sym (ap (λ (n : ℕ). Some n) same) ∙ first_place wants 0 (Some m) (is.waits, λ j below. is.none_before j (omega arith) below)

-- the first that there is tells of all
pub least_found : (wants : List (Option Want)) (leads : List (Option ℕ)) (b : ℕ) (none : Option ℕ) → AreLeads wants leads → b < length leads → NoneWaits wants 0 (block_size * b) → is_some (get_or leads b none) ≡ true → get_or leads b none ≡ position_from is_some 0 wants
least_found wants leads b none are within before some =
    some_first wants (block_size * b + block_size) (get_or leads b none) (lead_behind wants 0 (block_size * b) (block_size * b + block_size) (get_or leads b none) (omega arith) before (lead_at wants leads b none are within)) some

none_in : (wants : List (Option Want)) (from to : ℕ) (lead : Option ℕ) → IsLead wants from to lead → is_some lead ≡ false → NoneWaits wants from to
none_in wants from to None is none = is
none_in wants from to (Some m) is none = absurd (true≢false none)

-- where there is none, none waits in the block
pub none_more : (wants : List (Option Want)) (leads : List (Option ℕ)) (b : ℕ) (none : Option ℕ) → AreLeads wants leads → b < length leads → NoneWaits wants 0 (block_size * b) → is_some (get_or leads b none) ≡ false → NoneWaits wants 0 (block_size * (b + 1))
none_more wants leads b none are within before is k low high = elim (below_or_not k (block_size * b)) [
  | inl h ↦ before k low h
  | inr h ↦ none_in wants (block_size * b) (block_size * b + block_size) (get_or leads b none) (lead_at wants leads b none are within) is k h (omega (arith, high))
]

-- nor at all where no lead is left
pub none_at_all : (wants : List (Option Want)) (leads : List (Option ℕ)) (b : ℕ) → AreLeads wants leads → length leads ≤ b → NoneWaits wants 0 (block_size * b) → None ≡ position_from is_some 0 wants
none_at_all wants leads b are past none = least_is wants (block_size * b) None (omega (arith, are.enough, past)) none

-- ---- a change

-- the same wait there
lead_same : (wants more : List (Option Want)) (from to : ℕ) (lead : Option ℕ) → ((k : ℕ) → from ≤ k → k < to → want_at more k ≡ want_at wants k) → IsLead wants from to lead → IsLead more from to lead
lead_same wants more from to None same is = λ k low high. same k low high ∙ is k low high
lead_same wants more from to (Some m) same is = record {
  low = is.low;
  high = is.high;
  waits = ap (λ (o : Option Want). is_some o) (same m is.low is.high) ∙ is.waits;
  none_before = λ k low high. same k low (omega (arith, high, is.high)) ∙ is.none_before k low high;
}

-- one mutation waits for something else, and the lead of its block is known anew
pub leads_set : (wants : List (Option Want)) (leads : List (Option ℕ)) (m : ℕ) (want : Option Want) (lead : Option ℕ) → AreLeads wants leads → m < length wants
    → IsLead (set wants m want) (block_size * (m / 128)) (block_size * (m / 128) + block_size) lead → AreLeads (set wants m want) (set leads (m / 128) lead)
leads_set wants leads m want lead are within is = record {
  enough = omega (arith, are.enough, length_set wants m want, length_set leads (m / 128) lead);
  few = omega (arith, are.few, length_set wants m want);
  each = each;
}
  where
    block_within : m / 128 < length leads
    block_within = omega (arith, are.enough, within)

    some_is : (x y : Option ℕ) → Some x ≡ Some y → x ≡ y
    some_is x y e = cc

    other_wants : (k : ℕ) → k ≢ m → want_at (set wants m want) k ≡ want_at wants k
    other_wants k other = ap (option_and_then (λ (w : Option Want). w)) (set_other wants m k want other)

    each : (b : ℕ) (l : Option ℕ) → slice_get (set leads (m / 128) lead) b ≡ Some l → IsLead (set wants m want) (block_size * b) (block_size * b + block_size) l
    each b l at = elim (eqb_tells b (m / 128)) [
      | inl h ↦ (let here : lead ≡ l = some_is lead l (sym (set_here leads (m / 128) lead block_within) ∙ ap (λ (i : ℕ). slice_get (set leads (m / 128) lead) i) (sym h.1) ∙ at) in
          subst (λ (x : Option ℕ). IsLead (set wants m want) (block_size * b) (block_size * b + block_size) x) here
          (subst (λ (i : ℕ). IsLead (set wants m want) (block_size * i) (block_size * i + block_size) lead) (sym h.1) is))
      | inr h ↦ lead_same wants (set wants m want) (block_size * b) (block_size * b + block_size) l
          (λ k low high. other_wants k (λ same. h.1 (omega (arith, same, low, high))))
          (are.each b l (sym (set_other leads (m / 128) b lead h.1) ∙ at))
    ]

-- ---- a test that is asked for

abbrev pub want_eq : Want → Want → Bool
want_eq a b = a.test == b.test && a.bound == b.bound

same_want : (a b : Want) → want_eq a b ≡ true → a ≡ b
same_want a b is =
    let both = and_parts (a.test == b.test) (a.bound == b.bound) is in
    let test : a.test ≡ b.test = eqb_is a.test b.test both.0 in
    let bound : a.bound ≡ b.bound = eqb_is a.bound b.bound both.1 in
    λ i. record { test = test i; bound = bound i }
  where
    eqb_is : (x y : ℕ) → (x == y) ≡ true → x ≡ y
    eqb_is x y e = elim (eqb_tells x y) [ inl h ↦ h.1 | inr h ↦ absurd (true≢false (sym e ∙ h.0)) ]

want_itself : (a : Want) → want_eq a a ≡ true
want_itself a = rw (itself a.test, itself a.bound) refl
  where
    itself : (x : ℕ) → (x == x) ≡ true
    itself x = elim (eqb_tells x x) [ inl h ↦ h.0 | inr h ↦ absurd (h.1 refl) ]

pub want_told : (r : Bool) (o : Option Want) (w : Want) → r ≡ option_eq want_eq o (Some w) → (r ≡ true → o ≡ Some w) × (o ≡ Some w → r ≡ true)
want_told r None w is = (λ t. absurd (true≢false (sym t ∙ is)), λ e. absurd (let never : None ≡ Some w = e in cc))
want_told r (Some x) w is = (λ t. ap Some (same_want x w (sym is ∙ t)), λ e. let same : x ≡ w = cc in is ∙ ap (λ (y : Want). want_eq x y) (sym same) ∙ want_itself x)
