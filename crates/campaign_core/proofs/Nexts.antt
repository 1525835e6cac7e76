-- The event that comes next is allowed, and there is none exactly where no mutation wants a test.
use Rattle.campaign_core.proofs.Common.{◌≡◌, inl, inr, arith, ℕ, zero, suc, ◌+◌, ◌-◌, ◌<◌, ◌≤◌, Bool, true, false, true≢false, cond, List, [], ◌∷◌, length, slice_get, Option, None, Some, refl, sym}
use Rattle.campaign_core.proofs.Common.{◌∙◌, ap, subst, ◌⊎◌, ◌↔◌, IfSome, is_some, option_and_then, option_map, position_from, option_or, Want, wanted, each_from, each_at, length-each_from, none_or}
use Rattle.campaign_core.proofs.Common.{Event, Turn, Commit, IsAllowed, WantsNone, first_given, given_at, least_waiting, next_event, next_start, slot_gives, start_of, Asked, Busy, IsFree, IsIn, Turns}
use Rattle.campaign_core.proofs.Common.{is_in_slot, waiting, waits_for, IsUnderWay, want_at, same_Some, below_or_not}
use Rattle.campaign_core.proofs.SlotLemmas.{in_no_slot, inside}
use Rattle.campaign_core.proofs.WaitLemmas.{beyond}

-- the same in either case
either : {X : Type 0} (b : Bool) (x : X) → cond b x x ≡ x
either true x = refl
either false x = refl

-- ---- the least that waits

-- a least place is one of these numbers, and has something
least_has : {X : Type 0} (f : ℕ → Option X) (from n m : ℕ) → position_from is_some from (each_from f from n) ≡ Some m → (m < from + n) × (is_some (f m) ≡ true)
least_has f from zero m is = absurd (let never : None ≡ Some m = is in cc)
least_has f from (suc n) m is = go (least_has f (from + 1) n m) (is_some (f from)) refl is
  where
    go : (position_from is_some (from + 1) (each_from f (from + 1) n) ≡ Some m → (m < (from + 1) + n) × (is_some (f m) ≡ true)) → (b : Bool) → is_some (f from) ≡ b → cond b (Some from) (position_from is_some (from + 1) (each_from f (from + 1) n)) ≡ Some m → (m < from + suc n) × (is_some (f m) ≡ true)
    go more true e h = let same : from ≡ m = same_Some from m h in (omega (arith, same), subst (λ (k : ℕ). is_some (f k) ≡ true) same e)
    go more false e h = let rest = more h in (omega (arith, rest.0), rest.1)

pub least_here : {X : Type 0} (f : ℕ → Option X) (n m : ℕ) → position_from is_some 0 (each_from f 0 n) ≡ Some m → (m < n) × (is_some (f m) ≡ true)
least_here f n m is = let has = least_has f 0 n m is in (omega (arith, has.0), has.1)

-- where there is none, none has
least_none : {X : Type 0} (f : ℕ → Option X) (from n : ℕ) → position_from is_some from (each_from f from n) ≡ None → (m : ℕ) → from ≤ m → m < from + n → f m ≡ None
least_none f from zero is m low high = absurd (omega arith)
least_none {X} f from (suc n) is m low high = go (λ h above. least_none f (from + 1) n h m above (omega arith)) (f from) refl is
  where
    go : (position_from is_some (from + 1) (each_from f (from + 1) n) ≡ None → from + 1 ≤ m → f m ≡ None) → (o : Option X) → f from ≡ o
        → cond (is_some o) (Some from) (position_from is_some (from + 1) (each_from f (from + 1) n)) ≡ None → f m ≡ None
    go rest None e h = elim (below_or_not from m) [ inl x ↦ rest h (omega (arith, x)) | inr x ↦ (let same : from ≡ m = omega (arith, low, x) in subst (λ (k : ℕ). f k ≡ None) same e) ]
    go rest (Some x) e h = absurd (let never : Some from ≡ None = h in cc)

-- where all have none there is none
least_nowhere : {X : Type 0} (f : ℕ → Option X) (from n : ℕ) → ((m : ℕ) → from ≤ m → m < from + n → f m ≡ None) → position_from is_some from (each_from f from n) ≡ None
least_nowhere f from zero none = refl
least_nowhere {X} f from (suc n) none =
    ap (λ (o : Option X). cond (is_some o) (Some from) (position_from is_some (from + 1) (each_from f (from + 1) n))) (none from (omega arith) (omega arith))
    ∙ least_nowhere f (from + 1) n (λ m low high. none m (omega (arith, low)) (omega (arith, high)))

-- ---- what a mutation waits for, as it is kept

module _ {T : Type 0} (s : Turns T) (wants : List (Option Want)) (are : wants ≡ waiting s) where
  wants_at : (m : ℕ) → m < length s.campaign.mutations → want_at wants m ≡ waits_for s m
  wants_at m within = ap (λ (l : List (Option Want)). want_at l m) are ∙ ap (option_and_then (λ (w : Option Want). w)) (each_at (waits_for s) (length s.campaign.mutations) m within)

  pub told_waits : (m : ℕ) (want : Want) → want_at wants m ≡ Some want → (m < length s.campaign.mutations) × (waits_for s m ≡ Some want)
  told_waits m want told = elim (below_or_not m (length s.campaign.mutations)) [
    | inl h ↦ (h, sym (wants_at m h) ∙ told)
    | inr h ↦ absurd (let past : length wants ≤ m = omega (arith, ap length are, length-each_from (waits_for s) 0 (length s.campaign.mutations), h) in
        let never : None ≡ Some want = sym (beyond wants m past) ∙ told in cc)
  ]

  pub waits_told : (m : ℕ) (want : Want) → m < length s.campaign.mutations → waits_for s m ≡ Some want → want_at wants m ≡ Some want
  waits_told m want within waits = wants_at m within ∙ waits

  -- the start of the least mutation that waits
  pub next_start_by : (slot : ℕ) (least : Option ℕ) → least ≡ position_from is_some 0 wants → next_start s slot ≡ option_and_then (λ m. option_map (start_of slot m) (want_at wants m)) least
  next_start_by slot least is = go (least_waiting s) refl ∙ ap (λ (o : Option ℕ). option_and_then (λ m. option_map (start_of slot m) (want_at wants m)) o) (sym (is ∙ ap (position_from is_some 0) are))
    where
      go : (o : Option ℕ) → least_waiting s ≡ o → option_and_then (λ m. option_map (start_of slot m) (waits_for s m)) o ≡ option_and_then (λ m. option_map (start_of slot m) (want_at wants m)) o
      go None at = refl
      go (Some m) at = ap (option_map (start_of slot m)) (sym (wants_at m (least_here (waits_for s) (length s.campaign.mutations) m at).0))

-- ---- one slot

module _ {T : Type 0} (s : Turns T) where
  -- the start that a free slot gives is allowed
  start_allowed : s.is_stopped ≡ false → (slot : ℕ) → IsFree s.slots slot → (e : Event) → next_start s slot ≡ Some e → IsAllowed s e
  start_allowed going slot free e is = first (least_waiting s) refl is
    where
      second : (m : ℕ) → least_waiting s ≡ Some m → (o : Option Want) → waits_for s m ≡ o → option_map (start_of slot m) o ≡ Some e → IsAllowed s e
      second m at None waits h = absurd (let never : None ≡ Some e = h in cc)
      second m at (Some want) waits h =
          subst (λ (x : Event). IsAllowed s x) (same_Some (start_of slot m want) e h)
          (going, record { free = free; mutation = (least_here (waits_for s) (length s.campaign.mutations) m at).0; waits = waits })

      first : (o : Option ℕ) → least_waiting s ≡ o → option_and_then (λ m. option_map (start_of slot m) (waits_for s m)) o ≡ Some e → IsAllowed s e
      first None at h = absurd (let never : None ≡ Some e = h in cc)
      first (Some m) at h = second m at (waits_for s m) refl h

  slot_allowed : s.is_stopped ≡ false → (slot : ℕ) (e : Event) → slot_gives s slot ≡ Some e → IsAllowed s e
  slot_allowed going slot e is = go (slice_get s.slots slot) refl is
    where
      by_word : (busy : Busy) → IsIn s.slots slot busy → (o : Option ℕ) → busy.word ≡ o → Some (cond (is_some o) (Commit slot) (Turn slot)) ≡ Some e → IsAllowed s e
      by_word busy at None word h = subst (λ (x : Event). IsAllowed s x) (same_Some (Turn slot) e h) (going, record { busy = busy; at = at; none = word })
      by_word busy at (Some w) word h = subst (λ (x : Event). IsAllowed s x) (same_Some (Commit slot) e h) (going, record { busy = busy; word = w; at = at; some = word })

      go : (o : Option (Option Busy)) → slice_get s.slots slot ≡ o → given_at s slot o ≡ Some e → IsAllowed s e
      go None at h = absurd (let never : None ≡ Some e = h in cc)
      go (Some None) at h = start_allowed going slot at e h
      go (Some (Some busy)) at h = by_word busy at busy.word refl h

  given_allowed : s.is_stopped ≡ false → (slot count : ℕ) (e : Event) → first_given (slot_gives s) slot count ≡ Some e → IsAllowed s e
  given_allowed going slot zero e is = absurd (let never : None ≡ Some e = is in cc)
  given_allowed going slot (suc n) e is = go (given_allowed going (slot + 1) n e) (slot_gives s slot) refl is
    where
      go : (first_given (slot_gives s) (slot + 1) n ≡ Some e → IsAllowed s e) → (o : Option Event) → slot_gives s slot ≡ o → option_or o (first_given (slot_gives s) (slot + 1) n) ≡ Some e → IsAllowed s e
      go rest None at h = rest h
      go rest (Some x) at h = slot_allowed going slot e (at ∙ h)

  -- what comes next is allowed
  pub next_allowed : (e : Event) → next_event s ≡ Some e → IsAllowed s e
  next_allowed e is = by (s.is_stopped) refl is
    where
      go : s.is_stopped ≡ false → (o : Option Event) → first_given (slot_gives s) s.first (length s.slots - s.first) ≡ o → option_or o (first_given (slot_gives s) 0 s.first) ≡ Some e → IsAllowed s e
      go going None at h = given_allowed going 0 s.first e h
      go going (Some x) at h = given_allowed going s.first (length s.slots - s.first) e (at ∙ h)

      by : (b : Bool) → s.is_stopped ≡ b → cond b None (option_or (first_given (slot_gives s) s.first (length s.slots - s.first)) (first_given (slot_gives s) 0 s.first)) ≡ Some e → IsAllowed s e
      by true stopped h = absurd (let never : None ≡ Some e = h in cc)
      by false going h = go going (first_given (slot_gives s) s.first (length s.slots - s.first)) refl h

-- ---- none comes next

given_none : (give : ℕ → Option Event) (slot n : ℕ) → first_given give slot n ≡ None → (k : ℕ) → slot ≤ k → k < slot + n → give k ≡ None
given_none give slot zero none k low high = absurd (omega arith)
given_none give slot (suc n) none k low high =
    let both = none_or (give slot) (first_given give (slot + 1) n) none in
    elim (below_or_not slot k) [
      | inl x ↦ given_none give (slot + 1) n both.1 k (omega (arith, x)) (omega arith)
      | inr x ↦ (let same : slot ≡ k = omega (arith, low, x) in subst (λ (i : ℕ). give i ≡ None) same both.0)
    ]

none_given : (give : ℕ → Option Event) (slot n : ℕ) → ((k : ℕ) → give k ≡ None) → first_given give slot n ≡ None
none_given give slot zero none = refl
none_given give slot (suc n) none = ap (λ (o : Option Event). option_or o (first_given give (slot + 1) n)) (none slot) ∙ none_given give (slot + 1) n none

has_slot : {X : Type 0} (xs : List X) → 1 ≤ length xs → (x : X) × (slice_get xs 0 ≡ Some x)
has_slot [] some = absurd (omega arith)
has_slot (x ∷ xs) some = (x, refl)

module _ {T : Type 0} (gives : Asked → ℕ → Type 0) (s : Turns T) (order : IsUnderWay gives s) where
  -- no slot gives an event
  slots_give_none : s.is_stopped ≡ false → next_event s ≡ None → (k : ℕ) → k < length s.slots → slot_gives s k ≡ None
  slots_give_none going none k within =
      let both = none_or (first_given (slot_gives s) s.first (length s.slots - s.first)) (first_given (slot_gives s) 0 s.first) (ap (λ (b : Bool). cond b None (option_or (first_given (slot_gives s) s.first (length s.slots - s.first)) (first_given (slot_gives s) 0 s.first))) (sym going) ∙ none) in
      let first : s.first < length s.slots = order.first_slot in
      elim (below_or_not k s.first) [
        | inl x ↦ given_none (slot_gives s) 0 s.first both.1 k (omega arith) (omega (arith, x))
        | inr x ↦ given_none (slot_gives s) s.first (length s.slots - s.first) both.0 k x (omega (arith, within, first))
      ]

  -- then no slot is busy
  none_busy : ((k : ℕ) → k < length s.slots → slot_gives s k ≡ None) → (j : ℕ) (b : Busy) → IsIn s.slots j b → ⊥
  none_busy none j b at =
      let gave : given_at s j (slice_get s.slots j) ≡ None = none j (inside s.slots j (Some b) at) in
      never (ap (given_at s j) (sym at) ∙ gave)
    where
      never : Some (cond (is_some b.word) (Commit j) (Turn j)) ≡ None → ⊥
      never e = cc

  -- and none waits
  none_wants : ((k : ℕ) → k < length s.slots → slot_gives s k ≡ None) → WantsNone s
  none_wants none m within = by (least_waiting s) refl
    where
      slot : (x : Option Busy) × (slice_get s.slots 0 ≡ Some x)
      slot = has_slot s.slots order.some_slots

      started : (o : Option Busy) → slice_get s.slots 0 ≡ Some o → next_start s 0 ≡ None
      started None at = ap (given_at s 0) (sym at) ∙ none 0 order.some_slots
      started (Some b) at = absurd (none_busy none 0 b at)

      free : is_in_slot m s.slots ≡ false
      free = in_no_slot m s.slots (λ j b at same. none_busy none j b at)

      never : (k : ℕ) (o : Option Want) → waits_for s k ≡ o → is_some o ≡ true → option_map (start_of 0 k) (waits_for s k) ≡ None → ⊥
      never k None waits some e = true≢false (sym some)
      never k (Some want) waits some e = let h : Some (start_of 0 k want) ≡ None = ap (option_map (start_of 0 k)) (sym waits) ∙ e in cc

      by : (o : Option ℕ) → least_waiting s ≡ o → wanted s.campaign s.state.rows m s.goal ≡ None
      by None least = ap (λ (b : Bool). cond b None (wanted s.campaign s.state.rows m s.goal)) (sym free) ∙ least_none (waits_for s) 0 (length s.campaign.mutations) least m (omega arith) (omega (arith, within))
      by (Some k) least =
          absurd (never k (waits_for s k) refl (least_here (waits_for s) (length s.campaign.mutations) k least).1
          (ap (λ (o : Option ℕ). option_and_then (λ i. option_map (start_of 0 i) (waits_for s i)) o) (sym least) ∙ started slot.0 slot.1))

  pub none_next : next_event s ≡ None → (s.is_stopped ≡ true) ⊎ WantsNone s
  none_next none = by s.is_stopped refl
    where
      by : (b : Bool) → s.is_stopped ≡ b → (s.is_stopped ≡ true) ⊎ WantsNone s
      by true stopped = inl stopped
      by false going = inr (none_wants (slots_give_none going none))

  -- where none is wanted no slot gives an event
  wants_none : WantsNone s → (k : ℕ) → slot_gives s k ≡ None
  wants_none none k = go (slice_get s.slots k) refl
    where
      waits : (m : ℕ) → 0 ≤ m → m < 0 + length s.campaign.mutations → waits_for s m ≡ None
      waits m low high = ap (λ (o : Option Want). cond (is_in_slot m s.slots) None o) (none m (omega (arith, high))) ∙ either (is_in_slot m s.slots) None

      go : (o : Option (Option Busy)) → slice_get s.slots k ≡ o → slot_gives s k ≡ None
      go None at = ap (given_at s k) at
      go (Some None) at = ap (given_at s k) at ∙ ap (λ (o : Option ℕ). option_and_then (λ i. option_map (start_of k i) (waits_for s i)) o) (least_nowhere (waits_for s) 0 (length s.campaign.mutations) waits)
      go (Some (Some b)) at = absurd (let busy = order.tests k b at in let never : None ≡ Some (record { test = b.asked.test; bound = b.asked.bound }) = sym (none b.asked.mutation busy.mutation) ∙ busy.is_wanted in cc)

  pub next_none : (s.is_stopped ≡ true) ⊎ WantsNone s → next_event s ≡ None
  next_none (inl stopped) = ap (λ (b : Bool). cond b None (option_or (first_given (slot_gives s) s.first (length s.slots - s.first)) (first_given (slot_gives s) 0 s.first))) stopped
  next_none (inr none) =
      let give = wants_none none in
      ap (λ (o : Option Event). cond s.is_stopped None (option_or o (first_given (slot_gives s) 0 s.first))) (none_given (slot_gives s) s.first (length s.slots - s.first) give)
      ∙ ap (λ (o : Option Event). cond s.is_stopped None o) (none_given (slot_gives s) 0 s.first give) ∙ either s.is_stopped None

-- ---- as the parts of a core tell it

-- the start of the least mutation that waits, by what is kept
pub next_started : {T : Type 0} (view s : Turns T) (wants : List (Option Want)) (slot m : ℕ) (least : Option ℕ) (want : Option Want) → view ≡ s → wants ≡ waiting view → least ≡ position_from is_some 0 wants → least ≡ Some m → want ≡ want_at wants m → next_start s slot ≡ option_map (start_of slot m) want
next_started view s wants slot m least want same are is some want_is =
    next_start_by s wants (are ∙ ap waiting same) slot least is
    ∙ ap (option_and_then (λ k. option_map (start_of slot k) (want_at wants k))) some
    ∙ ap (option_map (start_of slot m)) (sym want_is)

not_some : {X : Type 0} (o : Option X) → is_some o ≡ false → o ≡ None
not_some None is = refl
not_some (Some x) is = absurd (true≢false is)

-- a slot that gives none is passed over
pub given_more : (give : ℕ → Option Event) (slot to : ℕ) → slot < to → is_some (give slot) ≡ false → first_given give (slot + 1) (to - (slot + 1)) ≡ first_given give slot (to - slot)
given_more give slot to below none =
    let left : suc (to - (slot + 1)) ≡ to - slot = omega (arith, below) in
    let rest : Option Event = first_given give (slot + 1) (to - (slot + 1)) in
    sym (ap (λ (o : Option Event). option_or o rest) (not_some (give slot) none)) ∙ ap (first_given give slot) left

-- what is told of the next event
pub record IsTold {T : Type 0} (s : Turns T) (next : Option Event) : Type 0 where
  pub allowed : IfSome next (IsAllowed s)
  pub none : (next ≡ None) ↔ ((s.is_stopped ≡ true) ⊎ WantsNone s)

if_allowed : {T : Type 0} (s : Turns T) (next : Option Event) → next ≡ next_event s → IfSome next (IsAllowed s)
if_allowed s None is = tt
if_allowed s (Some e) is = next_allowed s e (sym is)

told_next : {T : Type 0} (gives : Asked → ℕ → Type 0) (s : Turns T) (next : Option Event) → IsUnderWay gives s → next ≡ next_event s → IsTold s next
told_next gives s next order is = record {
  allowed = if_allowed s next is;
  none = (λ none. none_next gives s order (sym is ∙ none), λ told. is ∙ next_none gives s order told);
}

-- the slots from the first on give it
first_of : (first second : Option Event) → is_some first ≡ true → first ≡ option_or first second
first_of None second some = absurd (true≢false (sym some))
first_of (Some e) second some = refl

going_next : {T : Type 0} (s : Turns T) → s.is_stopped ≡ false → next_event s ≡ option_or (first_given (slot_gives s) s.first (length s.slots - s.first)) (first_given (slot_gives s) 0 s.first)
going_next s going = ap (λ (b : Bool). cond b None (option_or (first_given (slot_gives s) s.first (length s.slots - s.first)) (first_given (slot_gives s) 0 s.first))) going

pub found_first : {T : Type 0} (gives : Asked → ℕ → Type 0) (s : Turns T) (first count : ℕ) (next : Option Event) → IsUnderWay gives s → s.is_stopped ≡ false → first ≡ s.first → count ≡ length s.slots → next ≡ first_given (slot_gives s) first (count - first) → is_some next ≡ true → IsTold s next
found_first gives s first count next order going first_is count_is is some =
    let given : next ≡ first_given (slot_gives s) s.first (length s.slots - s.first) = is ∙ ap (λ (n : ℕ). first_given (slot_gives s) n (count - n)) first_is ∙ ap (λ (n : ℕ). first_given (slot_gives s) s.first (n - s.first)) count_is in
    let behind : Option Event = first_given (slot_gives s) 0 s.first in
    told_next gives s next order (first_of next behind some ∙ ap (λ (o : Option Event). option_or o behind) given ∙ sym (going_next s going))

-- else those before it
pub found_second : {T : Type 0} (gives : Asked → ℕ → Type 0) (s : Turns T) (first count : ℕ) (none next : Option Event) → IsUnderWay gives s → s.is_stopped ≡ false → first ≡ s.first → count ≡ length s.slots → none ≡ first_given (slot_gives s) first (count - first) → is_some none ≡ false → next ≡ first_given (slot_gives s) 0 (first - 0) → IsTold s next
found_second gives s first count none next order going first_is count_is before no_one is =
    let given : none ≡ first_given (slot_gives s) s.first (length s.slots - s.first) = before ∙ ap (λ (n : ℕ). first_given (slot_gives s) n (count - n)) first_is ∙ ap (λ (n : ℕ). first_given (slot_gives s) s.first (n - s.first)) count_is in
    let all : first - 0 ≡ s.first = omega (arith, first_is) in
    let behind : Option Event = first_given (slot_gives s) 0 s.first in
    told_next gives s next order (is ∙ ap (first_given (slot_gives s) 0) all ∙ ap (λ (o : Option Event). option_or o behind) (sym (not_some none no_one) ∙ given) ∙ sym (going_next s going))

-- a view of the parts is what callers see
pub kept_waiting : {T : Type 0} (view s : Turns T) (wants : List (Option Want)) → view ≡ s → wants ≡ waiting view → wants ≡ waiting s
kept_waiting view s wants same are = are ∙ ap waiting same

pub kept_order : {T : Type 0} (gives : Asked → ℕ → Type 0) (view s : Turns T) → view ≡ s → IsUnderWay gives view → IsUnderWay gives s
kept_order gives view s same order = subst (λ (x : Turns _). IsUnderWay gives x) same order
