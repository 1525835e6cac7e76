-- A campaign whose slots are all free is in order, and all its mutations wait.
use Rattle.campaign_core.proofs.Common.{◌≡◌, arith, ℕ, zero, suc, ◌+◌, ◌*◌, ◌≤◌, Bool, false, cond, List, [], ◌∷◌, ◌++◌, length, replicate, slice_get, Option, None, Some, refl, sym, ◌∙◌, ap, subst}
use Rattle.campaign_core.proofs.Common.{max, mul-le-mul_left, Entry, Campaign, Goal, Want, IsFit, IsGoal, wanted, each_from, IsStateOf, Progress, each_from-same, length-each_from, Seat, IsKept, seen}
use Rattle.campaign_core.proofs.Common.{Asked, Busy, Turns, all_wanted, busy_count, is_in_slot, waiting, waits_for, IsUnderWay, begun, room_for}
use Rattle.campaign_core.proofs.Rooms.{all_within}
use Rattle.campaign_core.proofs.SlotLemmas.{count_first}

-- ---- what each of some numbers has

each_last : {X : Type 0} (f : ℕ → X) (from n : ℕ) → each_from f from n ++ f (from + n) ∷ [] ≡ each_from f from (suc n)
each_last {X} f from zero = let place : from + 0 ≡ from = omega arith in ap (λ (k : ℕ). f k ∷ []) place
each_last {X} f from (suc n) =
    let place : from + suc n ≡ (from + 1) + n = omega arith in
    ap (λ (k : ℕ). f from ∷ (each_from f (from + 1) n ++ f k ∷ [])) place ∙ ap (λ (l : List X). f from ∷ l) (each_last f (from + 1) n)

pub each_next : {X : Type 0} (f : ℕ → X) (n : ℕ) → each_from f 0 n ++ f n ∷ [] ≡ each_from f 0 (n + 1)
each_next {X} f n =
    let place : n ≡ 0 + n = omega arith in
    let count : suc n ≡ n + 1 = omega arith in
    ap (λ (k : ℕ). each_from f 0 n ++ f k ∷ []) place ∙ each_last f 0 n ∙ ap (λ (k : ℕ). each_from f 0 k) count

-- ---- free slots

pub none_in : {X : Type 0} (n k : ℕ) (x : X) → slice_get (replicate n None) k ≡ Some (Some x) → ⊥
none_in zero k x at = let never : None ≡ Some (Some x) = at in cc
none_in (suc n) zero x at = let never : Some None ≡ Some (Some x) = at in cc
none_in (suc n) (suc k) x at = none_in n k x at

length_free : (n : ℕ) → length (replicate {A = Option Busy} n None) ≡ n
length_free zero = refl
length_free (suc n) = ap suc (length_free n)

none_count : (n : ℕ) → busy_count (replicate n None) ≡ 0
none_count zero = refl
none_count (suc n) = omega (arith, count_first None (replicate n None), none_count n)

none_slot : (m n : ℕ) → is_in_slot m (replicate n None) ≡ false
none_slot m zero = refl
none_slot m (suc n) = none_slot m n

pub seen_free : {J : Type 0} (left : J → ℕ) (n : ℕ) → seen left (replicate n None) ≡ replicate n None
seen_free left zero = refl
seen_free left (suc n) = ap (λ (l : List (Option Busy)). None ∷ l) (seen_free left n)

module _ {T : Type 0} (gives : Asked → ℕ → Type 0) (c : Campaign) (goal : Goal) (tester : T) (state : Progress) (slots : ℕ) (fit : IsFit c) (is_goal : IsGoal goal) (form : IsStateOf c state.rows state) where
  pub begun_order : 1 ≤ slots → slots ≤ 64 → IsUnderWay gives (begun c goal tester state slots)
  begun_order some few = record {
    fit = fit;
    is_goal = is_goal;
    form = record { rows_are = refl; form = form.form; results = form.results; bounds = form.bounds; asks = form.asks };
    tests = λ slot busy at. absurd (none_in slots slot busy at);
    apart = λ i j a b at_i at_j same. absurd (none_in slots i a at_i);
    counts = omega (arith, none_count slots);
    rows = omega arith;
    some_slots = omega (arith, length_free slots, some);
    few_slots = omega (arith, length_free slots, few);
    first_slot = omega (arith, length_free slots, some);
  }

  waiting_begun : waiting (begun c goal tester state slots) ≡ all_wanted c state.rows goal
  waiting_begun = each_from-same (λ m. wanted c state.rows m goal) (waits_for (begun c goal tester state slots)) 0 (length c.mutations)
      (λ m above. ap (λ (b : Bool). cond b None (wanted c state.rows m goal)) (none_slot m slots))

  pub begun_kept : {J : Type 0} (mutations : ℕ) (kinds : List ℕ) (has : J → Type 0) (asked : J → Asked) (word : J → Option ℕ) (wants : List (Option Want)) → 1 ≤ slots → slots ≤ 64 → mutations ≡ length c.mutations → kinds ≡ c.kinds
      → wants ≡ all_wanted c state.rows goal → IsKept mutations kinds gives has asked word (replicate slots None) wants (begun c goal tester state slots)
  begun_kept mutations kinds has asked word wants some few mutations_are kinds_are wants_are = record {
    order = begun_order some few;
    jobs = λ slot seat job at going. absurd (none_in slots slot seat at);
    wants_are = wants_are ∙ sym waiting_begun;
    room = omega (arith, all_within c goal.retry state.rows);
    mutations_are = mutations_are;
    kinds_are = kinds_are;
  }

  -- the parts as they are made
  module _ {J : Type 0} (left : J → ℕ) (free : List (Option (Seat J))) (now : Progress) (rows : ℕ) (free_is : free ≡ replicate slots None) (now_is : now ≡ record state { spare = max state.spare rows }) (rows_are : rows ≡ room_for c) where
    abbrev made : Turns T
    made = record { campaign = c; goal = goal; tester = tester; state = now; slots = seen left free; first = 0; acknowledged = 0; started = 0; is_stopped = false }

    state_is : now ≡ record state { spare = max state.spare (room_for c) }
    state_is = now_is ∙ ap (λ (n : ℕ). record state { spare = max state.spare n }) rows_are

    slots_are : seen left free ≡ replicate slots None
    slots_are = ap (seen left) free_is ∙ seen_free left slots

    pub made_is : made ≡ begun c goal tester state slots
    made_is = λ i. record { campaign = c; goal = goal; tester = tester; state = state_is i; slots = slots_are i; first = 0; acknowledged = 0; started = 0; is_stopped = false }

    pub made_kept : (mutations : ℕ) (kinds : List ℕ) (has : J → Type 0) (asked : J → Asked) (word : J → Option ℕ) (wants waits : List (Option Want)) → 1 ≤ slots → slots ≤ 64 → mutations ≡ length c.mutations → kinds ≡ c.kinds
        → wants ≡ all_wanted c state.rows goal → waits ≡ wants → IsKept mutations kinds gives has asked word free waits made
    made_kept mutations kinds has asked word wants waits some few mutations_are kinds_are wants_are waits_are =
        subst (λ (s : Turns T). IsKept mutations kinds gives has asked word free waits s) (sym made_is)
        (subst (λ (f : List (Option (Seat J))). IsKept mutations kinds gives has asked word f waits (begun c goal tester state slots)) (sym free_is)
        (begun_kept mutations kinds has asked word waits some few mutations_are kinds_are (waits_are ∙ wants_are)))

-- ---- how many

pub few_product : (a b : ℕ) → a ≤ 10000 → b ≤ 16 → a * b ≤ 160000
few_product a b few_a few_b =
    let most : b * a ≤ b * 10000 = mul-le-mul_left b few_a in
    let swap : a * b ≡ b * a = omega arith in
    omega (arith, most, swap, few_b)

pub length_wanted : (c : Campaign) (rows : List Entry) (goal : Goal) (wants : List (Option Want)) → wants ≡ all_wanted c rows goal → length wants ≡ length c.mutations
length_wanted c rows goal wants are = ap length are ∙ length-each_from (λ m. wanted c rows m goal) 0 (length c.mutations)
