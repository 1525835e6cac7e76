-- Each event that is allowed keeps a campaign in order.
use Rattle.campaign_core.proofs.Common.{◌≡◌, ◌≢◌, inl, inr, arith, ℕ, suc, ◌+◌, ◌<◌, ◌≤◌, Bool, true, false, cond, List, [], ◌∷◌, ◌++◌, length, set, slice_get, map, Option, None, Some, refl, sym, ◌∙◌}
use Rattle.campaign_core.proofs.Common.{ap, subst, length-append, ◌⊎◌, MatchOption, ⊤, is_some, option_map, nat_lt, Decides-ltb, slice_get-map, Entry, Campaign, Goal, Want, IsWordOf, wanted}
use Rattle.campaign_core.proofs.Common.{IsStateOf, wanted-other, Event, Start, Turn, Commit, Stop, Committed, IsAllowed, IsUnchanged, MayStart, Started, Takes, Turned, asked_and_word, slot_after}
use Rattle.campaign_core.proofs.Common.{Asked, GivesTheSame, Busy, IsIn, Turns, busy_count, is_in_slot, waits_for, AreApart, IsBusy, IsUnderWay}
use Rattle.campaign_core.proofs.SlotLemmas.{count_first, count_set, in_set, inside, length_set, not_in_slot}

-- the slot that comes first after an event is one
after_within : (slot count : ℕ) → 1 ≤ count → slot_after slot count < count
after_within slot count some = go (nat_lt (slot + 1) count) refl
  where
    go : (b : Bool) → nat_lt (slot + 1) count ≡ b → cond b (slot + 1) 0 < count
    go true e = (Decides-ltb (slot + 1) count).0 e
    go false e = some

-- what a mutation waits for is wanted, and the mutation is in no slot
pub waits_some : {T : Type 0} (s : Turns T) (m : ℕ) (want : Want) → waits_for s m ≡ Some want → (is_in_slot m s.slots ≡ false) × (wanted s.campaign s.state.rows m s.goal ≡ Some want)
waits_some s m want is = go (is_in_slot m s.slots) refl is
  where
    go : (b : Bool) → is_in_slot m s.slots ≡ b → cond b None (wanted s.campaign s.state.rows m s.goal) ≡ Some want → (is_in_slot m s.slots ≡ false) × (wanted s.campaign s.state.rows m s.goal ≡ Some want)
    go true e never = absurd (let none : None ≡ Some want = never in cc)
    go false e some = (e, some)

-- ---- a test that is in order

module _ (gives : Asked → ℕ → Type 0) (c : Campaign) (goal : Goal) where
  -- one more row, of another mutation
  busy_later : (rows : List Entry) (e : Entry) (busy : Busy) → e.mutation ≢ busy.asked.mutation → IsBusy gives c goal rows busy → IsBusy gives c goal (rows ++ e ∷ []) busy
  busy_later rows e busy other is = record { mutation = is.mutation; is_wanted = wanted-other c rows busy.asked.mutation goal e other ∙ is.is_wanted; given = is.given }

  -- the same test and the same word
  busy_same : (rows : List Entry) (a b : Busy) → b.asked ≡ a.asked → MatchOption b.word ⊤ (λ word. gives b.asked word × IsWordOf c b.asked.test word) → IsBusy gives c goal rows a → IsBusy gives c goal rows b
  busy_same rows a b same given is = record {
    mutation = subst (λ (x : Asked). x.mutation < length c.mutations) (sym same) is.mutation;
    is_wanted = subst (λ (x : Asked). wanted c rows x.mutation goal ≡ Some (record { test = x.test; bound = x.bound })) (sym same) is.is_wanted;
    given = given;
  }

-- testers that give the same
busy_given : (gives given : Asked → ℕ → Type 0) (c : Campaign) (goal : Goal) (rows : List Entry) (busy : Busy) → GivesTheSame gives given → IsBusy gives c goal rows busy → IsBusy given c goal rows busy
busy_given gives given c goal rows busy same is = record { mutation = is.mutation; is_wanted = is.is_wanted; given = go busy.word is.given }
  where
    go : (word : Option ℕ) → MatchOption word ⊤ (λ w. gives busy.asked w × IsWordOf c busy.asked.test w) → MatchOption word ⊤ (λ w. given busy.asked w × IsWordOf c busy.asked.test w)
    go None h = tt
    go (Some w) h = (same.on busy.asked w h.0, h.1)

-- ---- slots apart

-- one slot is freed
apart_freed : (slots : List (Option Busy)) (k : ℕ) → k < length slots → AreApart slots → AreApart (set slots k None)
apart_freed slots k within apart i j a b at_i at_j same =
    let one = in_set slots k within None i a at_i in
    let two = in_set slots k within None j b at_j in
    elim one [
      | inl x ↦ absurd (let never : None ≡ Some a = x.1 in cc)
      | inr x ↦ elim two [ inl y ↦ absurd (let never : None ≡ Some b = y.1 in cc) | inr y ↦ apart i j a b x.1 y.1 same ]
    ]

-- one slot has a test of a mutation that no other has
apart_taken : (slots : List (Option Busy)) (k : ℕ) (v : Busy) → k < length slots → AreApart slots → ((j : ℕ) (b : Busy) → j ≢ k → IsIn slots j b → b.asked.mutation ≢ v.asked.mutation) → AreApart (set slots k (Some v))
apart_taken slots k v within apart others i j a b at_i at_j same = go (in_set slots k within (Some v) i a at_i) (in_set slots k within (Some v) j b at_j)
  where
    is : (x y : Busy) → Some x ≡ Some y → x ≡ y
    is x y e = cc

    go : ((i ≡ k) × (Some v ≡ Some a)) ⊎ ((i ≢ k) × IsIn slots i a) → ((j ≡ k) × (Some v ≡ Some b)) ⊎ ((j ≢ k) × IsIn slots j b) → i ≡ j
    go (inl x) (inl y) = x.0 ∙ sym y.0
    go (inl x) (inr y) = absurd (others j b y.0 y.1 (sym (ap (λ (s : Busy). s.asked.mutation) (is v a x.1) ∙ same)))
    go (inr x) (inl y) = absurd (others i a x.0 x.1 (same ∙ sym (ap (λ (s : Busy). s.asked.mutation) (is v b y.1))))
    go (inr x) (inr y) = apart i j a b x.1 y.1 same

-- ---- the events

module _ {T : Type 0} (gives given : Asked → ℕ → Type 0) (most : Asked → ℕ) (old new : Turns T) (same : GivesTheSame gives given) (order : IsUnderWay gives old) where
  -- the tests in the slots, one of which has another
  tests_set : (slot : ℕ) (v : Option Busy) → slot < length old.slots → ((b : Busy) → v ≡ Some b → IsBusy given old.campaign old.goal old.state.rows b) → (j : ℕ) (b : Busy) → IsIn (set old.slots slot v) j b → IsBusy given old.campaign old.goal old.state.rows b
  tests_set slot v within one j b at = elim (in_set old.slots slot within v j b at) [
    | inl x ↦ one b x.1
    | inr x ↦ busy_given gives given old.campaign old.goal old.state.rows b same (order.tests j b x.1)
  ]

  pub started_order : (slot : ℕ) (asked : Asked) → MayStart old slot asked → Started most old new slot asked → IsUnderWay given new
  started_order slot asked may started =
      subst (λ (s : Turns T). IsUnderWay given s) (sym started.is)
      (record {
        fit = order.fit;
        is_goal = order.is_goal;
        form = order.form;
        tests = tests_set slot (Some started.busy) within (λ b e. subst (λ (x : Busy). IsBusy given old.campaign old.goal old.state.rows x) (some_is started.busy b e) busy);
        apart = apart_taken old.slots slot started.busy within order.apart (λ j b other at. subst (λ (x : Asked). b.asked.mutation ≢ x.mutation) (sym started.asked_is) (not_in_slot asked.mutation old.slots waits.0 j b at));
        counts = omega (arith, order.counts, count_set old.slots slot None (Some started.busy) may.free);
        rows = order.rows;
        some_slots = omega (arith, length_set old.slots slot (Some started.busy), order.some_slots);
        few_slots = omega (arith, length_set old.slots slot (Some started.busy), order.few_slots);
        first_slot = subst (λ (n : ℕ). slot_after slot (length old.slots) < n) (sym (length_set old.slots slot (Some started.busy))) (after_within slot (length old.slots) order.some_slots);
      })
    where
      some_is : (x y : Busy) → Some x ≡ Some y → x ≡ y
      some_is x y e = cc

      within : slot < length old.slots
      within = inside old.slots slot None may.free

      waits : (is_in_slot asked.mutation old.slots ≡ false) × (wanted old.campaign old.state.rows asked.mutation old.goal ≡ Some (record { test = asked.test; bound = asked.bound }))
      waits = waits_some old asked.mutation (record { test = asked.test; bound = asked.bound }) may.waits

      busy : IsBusy given old.campaign old.goal old.state.rows started.busy
      busy = record {
        mutation = subst (λ (x : Asked). x.mutation < length old.campaign.mutations) (sym started.asked_is) may.mutation;
        is_wanted = subst (λ (x : Asked). wanted old.campaign old.state.rows x.mutation old.goal ≡ Some (record { test = x.test; bound = x.bound })) (sym started.asked_is) waits.1;
        given = subst (λ (o : Option ℕ). MatchOption o ⊤ (λ word. given started.busy.asked word × IsWordOf old.campaign started.busy.asked.test word)) (sym started.none) tt;
      }

  pub turned_order : (slot : ℕ) → Turned gives old new slot → IsUnderWay given new
  turned_order slot turned =
      subst (λ (s : Turns T). IsUnderWay given s) (sym turned.is)
      (record {
        fit = order.fit;
        is_goal = order.is_goal;
        form = order.form;
        tests = tests_set slot (Some turned.now) within (λ b e. subst (λ (x : Busy). IsBusy given old.campaign old.goal old.state.rows x) (some_is turned.now b e) busy);
        apart = apart_taken old.slots slot turned.now within order.apart
            (λ j b other at. subst (λ (x : Asked). b.asked.mutation ≢ x.mutation) (sym turned.same) (λ e. other (order.apart j slot b turned.before at turned.at e)));
        counts = omega (arith, order.counts, count_set old.slots slot (Some turned.before) (Some turned.now) turned.at);
        rows = order.rows;
        some_slots = omega (arith, length_set old.slots slot (Some turned.now), order.some_slots);
        few_slots = omega (arith, length_set old.slots slot (Some turned.now), order.few_slots);
        first_slot = subst (λ (n : ℕ). slot_after slot (length old.slots) < n) (sym (length_set old.slots slot (Some turned.now))) (after_within slot (length old.slots) order.some_slots);
      })
    where
      some_is : (x y : Busy) → Some x ≡ Some y → x ≡ y
      some_is x y e = cc

      within : slot < length old.slots
      within = inside old.slots slot (Some turned.before) turned.at

      word_given : (word : Option ℕ) → MatchOption word (turned.now.left < turned.before.left) (λ w. gives turned.before.asked w × IsWordOf old.campaign turned.before.asked.test w)
          → MatchOption word ⊤ (λ w. given turned.before.asked w × IsWordOf old.campaign turned.before.asked.test w)
      word_given None h = tt
      word_given (Some w) h = (same.on turned.before.asked w h.0, h.1)

      busy : IsBusy given old.campaign old.goal old.state.rows turned.now
      busy = busy_same given old.campaign old.goal old.state.rows turned.before turned.now turned.same
          (subst (λ (x : Asked). MatchOption turned.now.word ⊤ (λ w. given x w × IsWordOf old.campaign x.test w)) (sym turned.same) (word_given turned.now.word turned.told))
          (busy_given gives given old.campaign old.goal old.state.rows turned.before same (order.tests slot turned.before turned.at))

  pub committed_order : (slot : ℕ) → Committed old new slot → IsUnderWay given new
  committed_order slot committed =
      subst (λ (s : Turns T). IsUnderWay given s) (sym committed.is)
      (record {
        fit = order.fit;
        is_goal = order.is_goal;
        form = subst (λ (rows : List Entry). IsStateOf old.campaign rows new.state) (sym committed.state.rows_are) committed.state;
        tests = tests;
        apart = apart_freed old.slots slot within order.apart;
        counts = omega (arith, order.counts, count_set old.slots slot (Some committed.row.busy) None committed.row.at);
        rows = omega (arith, order.rows, ap length committed.state.rows_are, length-append old.state.rows (committed.entry ∷ []));
        some_slots = omega (arith, length_set old.slots slot None, order.some_slots);
        few_slots = omega (arith, length_set old.slots slot None, order.few_slots);
        first_slot = subst (λ (n : ℕ). slot_after slot (length old.slots) < n) (sym (length_set old.slots slot None)) (after_within slot (length old.slots) order.some_slots);
      })
    where
      within : slot < length old.slots
      within = inside old.slots slot (Some committed.row.busy) committed.row.at

      tests : (j : ℕ) (b : Busy) → IsIn (set old.slots slot None) j b → IsBusy given old.campaign old.goal new.state.rows b
      tests j b at = elim (in_set old.slots slot within None j b at) [
        | inl x ↦ absurd (let never : None ≡ Some b = x.1 in cc)
        | inr x ↦ subst (λ (rows : List Entry). IsBusy given old.campaign old.goal rows b) (sym committed.state.rows_are)
            (busy_later given old.campaign old.goal old.state.rows committed.entry b (λ e. x.0 (order.apart j slot b committed.row.busy x.1 committed.row.at (sym e ∙ committed.row.pair.0)))
            (busy_given gives given old.campaign old.goal old.state.rows b same (order.tests j b x.1)))
      ]

  pub stopped_order : new ≡ record old { is_stopped = true } → IsUnderWay given new
  stopped_order is =
      subst (λ (s : Turns T). IsUnderWay given s) (sym is)
      (record {
        fit = order.fit;
        is_goal = order.is_goal;
        form = order.form;
        tests = λ j b at. busy_given gives given old.campaign old.goal old.state.rows b same (order.tests j b at);
        apart = order.apart;
        counts = order.counts;
        rows = order.rows;
        some_slots = order.some_slots;
        few_slots = order.few_slots;
        first_slot = order.first_slot;
      })

  -- ---- a refusal

  -- what stands in the slots now stood there before
  same_slots : map asked_and_word new.slots ≡ map asked_and_word old.slots → (j : ℕ) (b : Busy) → IsIn new.slots j b → (a : Busy) × IsIn old.slots j a × (b.asked ≡ a.asked) × (b.word ≡ a.word)
  same_slots are j b at = go (slice_get old.slots j) refl mapped
    where
      pair_is : (x y : Asked × Option ℕ) → Some (Some x) ≡ Some (Some y) → x ≡ y
      pair_is x y e = cc

      mapped : option_map asked_and_word (slice_get old.slots j) ≡ Some (Some (b.asked, b.word))
      mapped = sym (slice_get-map asked_and_word old.slots j) ∙ ap (λ (l : List (Option (Asked × Option ℕ))). slice_get l j) (sym are) ∙ slice_get-map asked_and_word new.slots j ∙ ap (option_map asked_and_word) at

      go : (o : Option (Option Busy)) → slice_get old.slots j ≡ o → option_map asked_and_word o ≡ Some (Some (b.asked, b.word)) → (a : Busy) × IsIn old.slots j a × (b.asked ≡ a.asked) × (b.word ≡ a.word)
      go None is e = absurd (let never : None ≡ Some (Some (b.asked, b.word)) = e in cc)
      go (Some None) is e = absurd (let never : Some None ≡ Some (Some (b.asked, b.word)) = e in cc)
      go (Some (Some a)) is e = (a, is, ap (λ (p : Asked × Option ℕ). p.0) (pair_is (b.asked, b.word) (a.asked, a.word) (sym e)), ap (λ (p : Asked × Option ℕ). p.1) (pair_is (b.asked, b.word) (a.asked, a.word) (sym e)))

  pub unchanged_order : IsUnchanged old new → IsUnderWay given new
  unchanged_order un =
      subst (λ (s : Turns T). IsUnderWay given s) (sym un.is)
      (record {
        fit = order.fit;
        is_goal = order.is_goal;
        form = order.form;
        tests = tests;
        apart = apart;
        counts = omega (arith, order.counts, counted new.slots old.slots un.slots);
        rows = order.rows;
        some_slots = omega (arith, lengths new.slots old.slots un.slots, order.some_slots);
        few_slots = omega (arith, lengths new.slots old.slots un.slots, order.few_slots);
        first_slot = omega (arith, lengths new.slots old.slots un.slots, order.first_slot);
      })
    where
      tests : (j : ℕ) (b : Busy) → IsIn new.slots j b → IsBusy given old.campaign old.goal old.state.rows b
      tests j b at =
          let was = same_slots un.slots j b at in
          let busy = busy_given gives given old.campaign old.goal old.state.rows was.0 same (order.tests j was.0 was.1) in
          busy_same given old.campaign old.goal old.state.rows was.0 b was.2
          (subst (λ (x : Asked). MatchOption b.word ⊤ (λ w. given x w × IsWordOf old.campaign x.test w)) (sym was.2) (subst (λ (o : Option ℕ). MatchOption o ⊤ (λ w. given was.0.asked w × IsWordOf old.campaign was.0.asked.test w)) (sym was.3) busy.given)) busy

      apart : AreApart new.slots
      apart i j a b at_i at_j e =
          let one = same_slots un.slots i a at_i in
          let two = same_slots un.slots j b at_j in
          order.apart i j one.0 two.0 one.1 two.1 (ap (λ (x : Asked). x.mutation) (sym one.2) ∙ e ∙ ap (λ (x : Asked). x.mutation) two.2)

      lengths : (xs ys : List (Option Busy)) → map asked_and_word xs ≡ map asked_and_word ys → length xs ≡ length ys
      lengths [] [] e = refl
      lengths [] (y ∷ ys) e = absurd (let never : [] ≡ asked_and_word y ∷ map asked_and_word ys = e in cc)
      lengths (x ∷ xs) [] e = absurd (let never : asked_and_word x ∷ map asked_and_word xs ≡ [] = e in cc)
      lengths (x ∷ xs) (y ∷ ys) e = ap suc (lengths xs ys (let h : asked_and_word x ∷ map asked_and_word xs ≡ asked_and_word y ∷ map asked_and_word ys = e in cc))

      some_same : (x y : Option Busy) → asked_and_word x ≡ asked_and_word y → is_some x ≡ is_some y
      some_same None None e = refl
      some_same None (Some y) e = absurd (let never : None ≡ Some (y.asked, y.word) = e in cc)
      some_same (Some x) None e = absurd (let never : Some (x.asked, x.word) ≡ None = e in cc)
      some_same (Some x) (Some y) e = refl

      counted : (xs ys : List (Option Busy)) → map asked_and_word xs ≡ map asked_and_word ys → busy_count xs ≡ busy_count ys
      counted [] [] e = refl
      counted [] (y ∷ ys) e = absurd (let never : [] ≡ asked_and_word y ∷ map asked_and_word ys = e in cc)
      counted (x ∷ xs) [] e = absurd (let never : asked_and_word x ∷ map asked_and_word xs ≡ [] = e in cc)
      counted (x ∷ xs) (y ∷ ys) e =
          let h : asked_and_word x ∷ map asked_and_word xs ≡ asked_and_word y ∷ map asked_and_word ys = e in
          let first : asked_and_word x ≡ asked_and_word y = cc in
          let rest : map asked_and_word xs ≡ map asked_and_word ys = cc in
          count_first x xs ∙ ap (λ (b : Bool). cond b 1 0 + busy_count xs) (some_same x y first) ∙ ap (λ (n : ℕ). cond (is_some y) 1 0 + n) (counted xs ys rest) ∙ sym (count_first y ys)

-- an allowed event that takes place
pub takes_order : {T : Type 0} (gives given : Asked → ℕ → Type 0) (most : Asked → ℕ) (old new : Turns T) (e : Event) → GivesTheSame gives given → IsUnderWay gives old → IsAllowed old e → Takes gives most old e new → IsUnderWay given new
takes_order gives given most old new (Start slot m t bound) same order allowed taken = started_order gives given most old new same order slot (record { mutation = m; test = t; bound = bound }) allowed.1 taken
takes_order gives given most old new (Turn slot) same order allowed taken = turned_order gives given most old new same order slot taken
takes_order gives given most old new (Commit slot) same order allowed taken = committed_order gives given most old new same order slot taken
takes_order gives given most old new Stop same order allowed taken = stopped_order gives given most old new same order taken
