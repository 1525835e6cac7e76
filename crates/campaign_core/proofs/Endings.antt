-- Each event but Stop leaves fewer events.
use Rattle.campaign_core.proofs.Common.{◌≡◌, ◌≢◌, inl, inr, arith, ℕ, zero, suc, ◌+◌, ◌-◌, ◌*◌, ◌<◌, ◌≤◌, Bool, true, false, cond, List, [], ◌∷◌, ◌++◌, length, set, slice_get, Option, None, Some}
use Rattle.campaign_core.proofs.Common.{refl, sym, ◌∙◌, ap, ap₂, subst, MatchOption, sum, unwrap_or, mul-le-mul_left, eqb_tells, Entry, Campaign, Goal, Want, IsWordOf, first_bound, is_given_up}
use Rattle.campaign_core.proofs.Common.{is_open, next_bound, wanted, answers_of, bound_in, each_from, word_in, each_from-same, want_follows, events_by, events_left, greatest, mutation_events, slot_of}
use Rattle.campaign_core.proofs.Common.{test_events, test_turns, Event, Start, Turn, Commit, Stop, Committed, IsAllowed, MayStart, Started, Takes, Turned, mutation_left, rows_left, test_left, Asked}
use Rattle.campaign_core.proofs.Common.{Busy, IsIn, Turns, is_in_slot, is_of, IsBusy, IsUnderWay, same_Some}
use Rattle.campaign_core.proofs.Again.{bound_of_word, wanted_by_rows}
use Rattle.campaign_core.proofs.Orderly.{waits_some}
use Rattle.campaign_core.proofs.Rooms.{left_other, mutation_less, sum_at, sum_less}
use Rattle.campaign_core.proofs.SlotLemmas.{in_set, inside, not_in_slot, set_here, set_other}

greatest_at : (f : ℕ → ℕ) (from n k : ℕ) → k < n → f (from + k) ≤ greatest f from n
greatest_at f from zero k within = absurd (omega arith)
greatest_at f from (suc n) zero within = let here : from + 0 ≡ from = omega arith in omega (arith, ap f here)
greatest_at f from (suc n) (suc k) within =
    let place : from + suc k ≡ (from + 1) + k = omega arith in
    let rest = greatest_at f (from + 1) n k (omega arith) in
    omega (arith, ap f place, rest)

-- ---- the test of a mutation in a slot

-- one slot has something else, of other mutations
slot_same : (m : ℕ) (slots : List (Option Busy)) (k : ℕ) (old new : Option Busy) → slice_get slots k ≡ Some old → is_of m old ≡ false → is_of m new ≡ false → slot_of m (set slots k new) ≡ slot_of m slots
slot_same m [] k old new at not_old not_new = absurd (let never : None ≡ Some old = at in cc)
slot_same m (x ∷ slots) zero old new at not_old not_new =
    let is : x ≡ old = same_Some x old at in
    ap (λ (b : Bool). cond b new (slot_of m slots)) not_new ∙ sym (ap (λ (b : Bool). cond b x (slot_of m slots)) (ap (is_of m) is ∙ not_old))
slot_same m (x ∷ slots) (suc k) old new at not_old not_new = ap (λ (o : Option Busy). cond (is_of m x) x o) (slot_same m slots k old new at not_old not_new)

of_other : (m : ℕ) (o : Option Busy) → ((b : Busy) → o ≡ Some b → b.asked.mutation ≢ m) → is_of m o ≡ false
of_other m None other = refl
of_other m (Some b) other = elim (eqb_tells b.asked.mutation m) [ inl h ↦ absurd (other b refl h.1) | inr h ↦ h.0 ]

of_this : (b : Busy) (m : ℕ) → b.asked.mutation ≡ m → is_of m (Some b) ≡ true
of_this b m same = elim (eqb_tells b.asked.mutation m) [ inl h ↦ h.0 | inr h ↦ absurd (h.1 same) ]

-- one slot has the mutation's test, and no other one
slot_this : (m : ℕ) (slots : List (Option Busy)) (k : ℕ) (b : Busy) → IsIn slots k b → b.asked.mutation ≡ m → ((j : ℕ) (a : Busy) → j ≢ k → IsIn slots j a → a.asked.mutation ≢ m) → slot_of m slots ≡ Some b
slot_this m [] k b at same others = absurd (let never : None ≡ Some (Some b) = at in cc)
slot_this m (x ∷ slots) zero b at same others =
    let is : x ≡ Some b = same_Some x (Some b) at in
    ap (λ (o : Option Busy). cond (is_of m o) o (slot_of m slots)) is ∙ ap (λ (t : Bool). cond t (Some b) (slot_of m slots)) (of_this b m same)
slot_this m (x ∷ slots) (suc k) b at same others =
    let not_first : is_of m x ≡ false = of_other m x (λ a is. others 0 a zero_is_not (ap Some is)) in
    ap (λ (t : Bool). cond t x (slot_of m slots)) not_first ∙ slot_this m slots k b at same (λ j a other in_j. others (suc j) a (λ e. other (pred_same e)) in_j)
  where
    zero_is_not : 0 ≢ suc k
    zero_is_not e = omega (arith, e)

    pred_same : {j : ℕ} → suc j ≡ suc k → j ≡ k
    pred_same e = omega (arith, e)

slot_none : (m : ℕ) (slots : List (Option Busy)) → ((j : ℕ) (a : Busy) → IsIn slots j a → a.asked.mutation ≢ m) → slot_of m slots ≡ None
slot_none m [] none = refl
slot_none m (x ∷ slots) none =
    ap (λ (t : Bool). cond t x (slot_of m slots)) (of_other m x (λ a is. none 0 a (ap Some is))) ∙ slot_none m slots (λ j a in_j. none (suc j) a in_j)

-- ---- what is wanted may be added

wanted_left : (c : Campaign) (rows : List Entry) (m : ℕ) (goal : Goal) (want : Want) → wanted c rows m goal ≡ Some want → want.test < length c.kinds → want.test < 16 → 1 ≤ mutation_left c goal.retry rows m
wanted_left c rows m goal want is test inside =
    let here : 1 ≤ test_left goal.retry rows m want.test = go (word_in (answers_of m rows) want.test) refl in
    let place : 0 + want.test ≡ want.test = omega arith in
    let at = sum_at (test_left goal.retry rows m) 0 (length c.kinds) want.test test in
    omega (arith, here, at, ap (test_left goal.retry rows m) place)
  where
    opened : is_open goal.retry (word_in (answers_of m rows) want.test) (unwrap_or (bound_in m want.test rows) 0) ≡ true
    opened = (wanted_by_rows c rows m goal want is inside).0

    go : (o : Option ℕ) → word_in (answers_of m rows) want.test ≡ o → 1 ≤ test_left goal.retry rows m want.test
    go None word = let two : test_left goal.retry rows m want.test ≡ 2 = ap (λ (o : Option ℕ). rows_left goal.retry o (bound_in m want.test rows)) word in omega (arith, two)
    go (Some w) word =
        let had = bound_of_word m want.test w rows word in
        let given_up : is_given_up goal.retry w had.0 ≡ true = sym (ap₂ (λ (o b : Option ℕ). is_open goal.retry o (unwrap_or b 0)) word had.1) ∙ opened in
        let one : test_left goal.retry rows m want.test ≡ 1 = ap₂ (λ (o b : Option ℕ). rows_left goal.retry o b) word had.1 ∙ ap (λ (b : Bool). cond b 1 0) given_up in
        omega (arith, one)

-- it has one of the two bounds, so it takes no more turns than the most
wanted_turns : (most : Asked → ℕ) (c : Campaign) (rows : List Entry) (m : ℕ) (goal : Goal) (want : Want) → wanted c rows m goal ≡ Some want → m < length c.mutations → want.test < length c.kinds → want.test < 16
    → most (record { mutation = m; test = want.test; bound = want.bound }) + 3 ≤ test_events most c goal
wanted_turns most c rows m goal want is mutation test inside =
    let bound = (wanted_by_rows c rows m goal want is inside).1 in
    let one : most (record { mutation = m; test = want.test; bound = want.bound }) ≤ test_turns most c goal m want.test = go (word_in (answers_of m rows) want.test) bound in
    let first : 0 + want.test ≡ want.test = omega arith in
    let second : 0 + m ≡ m = omega arith in
    let tests = greatest_at (test_turns most c goal m) 0 (length c.kinds) want.test test in
    let all = greatest_at (λ (k : ℕ). greatest (test_turns most c goal k) 0 (length c.kinds)) 0 (length c.mutations) m mutation in
    omega (arith, one, tests, all, ap (test_turns most c goal m) first, ap (λ (k : ℕ). greatest (test_turns most c goal k) 0 (length c.kinds)) second)
  where
    at : (b : ℕ) → want.bound ≡ b → most (record { mutation = m; test = want.test; bound = b }) ≤ test_turns most c goal m want.test → most (record { mutation = m; test = want.test; bound = want.bound }) ≤ test_turns most c goal m want.test
    at b same h = subst (λ (k : ℕ). most (record { mutation = m; test = want.test; bound = k }) ≤ test_turns most c goal m want.test) (sym same) h

    go : (o : Option ℕ) → want.bound ≡ next_bound c goal.retry want.test o → most (record { mutation = m; test = want.test; bound = want.bound }) ≤ test_turns most c goal m want.test
    go None same = at (first_bound c want.test) same (omega arith)
    go (Some w) same = at goal.retry same (omega arith)

-- ---- one mutation, before and after

fewer_started : (most left rows : ℕ) → 1 ≤ rows → left + 3 ≤ most → most * (rows - 1) + (left + 2) < most * rows
fewer_started most left zero some few = absurd (omega arith)
fewer_started most left (suc rows) some few =
    let all : most * suc rows ≡ most + most * rows = omega arith in
    let less : suc rows - 1 ≡ rows = omega arith in
    omega (arith, all, ap (λ (n : ℕ). most * n) less, few)

fewer_committed : (most before after : ℕ) → after < before → most * after < most * (before - 1) + 1
fewer_committed most before after less =
    let within : after ≤ before - 1 = omega (arith, less) in
    omega (arith, mul-le-mul_left most within)

-- ---- all mutations

module _ {T : Type 0} (gives : Asked → ℕ → Type 0) (most : Asked → ℕ) (old new : Turns T) (order : IsUnderWay gives old) where
  -- one mutation takes fewer, and the others as many
  one_fewer : (m : ℕ) → m < length old.campaign.mutations → new.campaign ≡ old.campaign → ((k : ℕ) → k ≢ m → mutation_events most new k ≡ mutation_events most old k) → mutation_events most new m < mutation_events most old m → events_left most new < events_left most old
  one_fewer m within campaign others less =
      let same : length new.campaign.mutations ≡ length old.campaign.mutations = ap (λ (c : Campaign). length c.mutations) campaign in
      let place : m ≡ 0 + m = omega arith in
      subst (λ (n : ℕ). sum (each_from (mutation_events most new) 0 n) < events_left most old) (sym same)
      (sum_less (mutation_events most old) (mutation_events most new) 0 (length old.campaign.mutations) m within each (subst (λ (k : ℕ). mutation_events most new k < mutation_events most old k) place less))
    where
      each : (k : ℕ) → mutation_events most new k ≤ mutation_events most old k
      each k = elim (eqb_tells k m) [
        | inl h ↦ (let here : mutation_events most new k < mutation_events most old k = subst (λ (j : ℕ). mutation_events most new j < mutation_events most old j) (sym h.1) less in omega (arith, here))
        | inr h ↦ omega (arith, others k h.1)
      ]

  -- a mutation of which nothing changed
  events_same : (m : ℕ) → new.campaign ≡ old.campaign → new.goal ≡ old.goal → mutation_left old.campaign old.goal.retry new.state.rows m ≡ mutation_left old.campaign old.goal.retry old.state.rows m → slot_of m new.slots ≡ slot_of m old.slots → mutation_events most new m ≡ mutation_events most old m
  events_same m campaign goal left slots = rw (campaign, goal, left, slots) refl

  few_tests : (t : ℕ) → t < length old.campaign.kinds → t < 16
  few_tests t within = omega (arith, within, order.fit.few_tests)

  test_within : (m : ℕ) (want : Want) → m < length old.campaign.mutations → wanted old.campaign old.state.rows m old.goal ≡ Some want → want.test < length old.campaign.kinds
  test_within m want mutation is = (want_follows old.campaign old.state.rows m old.goal want order.fit order.is_goal order.form.form mutation is).0

  pub started_fewer : (slot : ℕ) (asked : Asked) → MayStart old slot asked → Started most old new slot asked → events_left most new < events_left most old
  started_fewer slot asked may started = one_fewer asked.mutation may.mutation campaign others here
    where
      campaign : new.campaign ≡ old.campaign
      campaign = ap (λ (s : Turns T). s.campaign) started.is

      goal : new.goal ≡ old.goal
      goal = ap (λ (s : Turns T). s.goal) started.is

      rows : new.state.rows ≡ old.state.rows
      rows = ap (λ (s : Turns T). s.state.rows) started.is

      slots : new.slots ≡ set old.slots slot (Some started.busy)
      slots = ap (λ (s : Turns T). s.slots) started.is

      mutation : started.busy.asked.mutation ≡ asked.mutation
      mutation = ap (λ (a : Asked). a.mutation) started.asked_is

      waits : (is_in_slot asked.mutation old.slots ≡ false) × (wanted old.campaign old.state.rows asked.mutation old.goal ≡ Some (record { test = asked.test; bound = asked.bound }))
      waits = waits_some old asked.mutation (record { test = asked.test; bound = asked.bound }) may.waits

      test : asked.test < length old.campaign.kinds
      test = test_within asked.mutation (record { test = asked.test; bound = asked.bound }) may.mutation waits.1

      within : slot < length old.slots
      within = inside old.slots slot None may.free

      before : slot_of asked.mutation old.slots ≡ None
      before = slot_none asked.mutation old.slots (not_in_slot asked.mutation old.slots waits.0)

      after : slot_of asked.mutation new.slots ≡ Some started.busy
      after = ap (slot_of asked.mutation) slots ∙ slot_this asked.mutation (set old.slots slot (Some started.busy)) slot started.busy (set_here old.slots slot (Some started.busy) within) mutation
          (λ j a other at. not_in_slot asked.mutation old.slots waits.0 j a (sym (set_other old.slots slot j (Some started.busy) other) ∙ at))

      here : mutation_events most new asked.mutation < mutation_events most old asked.mutation
      here =
          let some = wanted_left old.campaign old.state.rows asked.mutation old.goal (record { test = asked.test; bound = asked.bound }) waits.1 test (few_tests asked.test test) in
          let turns = wanted_turns most old.campaign old.state.rows asked.mutation old.goal (record { test = asked.test; bound = asked.bound }) waits.1 may.mutation test (few_tests asked.test test) in
          let few : started.busy.left + 3 ≤ test_events most old.campaign old.goal = omega (arith, started.few, turns) in
          rw (campaign, goal, rows, before, after, started.none) (fewer_started (test_events most old.campaign old.goal) started.busy.left (mutation_left old.campaign old.goal.retry old.state.rows asked.mutation) some few)

      others : (k : ℕ) → k ≢ asked.mutation → mutation_events most new k ≡ mutation_events most old k
      others k other =
          events_same k campaign goal (ap (λ (l : List Entry). mutation_left old.campaign old.goal.retry l k) rows)
          (ap (slot_of k) slots ∙ slot_same k old.slots slot None (Some started.busy) may.free refl (of_other k (Some started.busy) (λ b is same. other (sym same ∙ ap (λ (x : Busy). x.asked.mutation) (sym (same_Some started.busy b is)) ∙ mutation))))

  pub turned_fewer : (slot : ℕ) → Turned gives old new slot → events_left most new < events_left most old
  turned_fewer slot turned = one_fewer turned.before.asked.mutation busy.mutation campaign others here
    where
      busy : IsBusy gives old.campaign old.goal old.state.rows turned.before
      busy = order.tests slot turned.before turned.at

      campaign : new.campaign ≡ old.campaign
      campaign = ap (λ (s : Turns T). s.campaign) turned.is

      goal : new.goal ≡ old.goal
      goal = ap (λ (s : Turns T). s.goal) turned.is

      rows : new.state.rows ≡ old.state.rows
      rows = ap (λ (s : Turns T). s.state.rows) turned.is

      slots : new.slots ≡ set old.slots slot (Some turned.now)
      slots = ap (λ (s : Turns T). s.slots) turned.is

      mutation : turned.now.asked.mutation ≡ turned.before.asked.mutation
      mutation = ap (λ (a : Asked). a.mutation) turned.same

      others_apart : (j : ℕ) (a : Busy) → j ≢ slot → IsIn old.slots j a → a.asked.mutation ≢ turned.before.asked.mutation
      others_apart j a other at same = other (order.apart j slot a turned.before at turned.at same)

      before : slot_of turned.before.asked.mutation old.slots ≡ Some turned.before
      before = slot_this turned.before.asked.mutation old.slots slot turned.before turned.at refl others_apart

      after : slot_of turned.before.asked.mutation new.slots ≡ Some turned.now
      after = ap (slot_of turned.before.asked.mutation) slots ∙ slot_this turned.before.asked.mutation (set old.slots slot (Some turned.now)) slot turned.now (set_here old.slots slot (Some turned.now) (inside old.slots slot (Some turned.before) turned.at)) mutation
          (λ j a other at. others_apart j a other (sym (set_other old.slots slot j (Some turned.now) other) ∙ at))

      falls : (word : Option ℕ) → MatchOption word (turned.now.left < turned.before.left) (λ w. gives turned.before.asked w × IsWordOf old.campaign turned.before.asked.test w) → events_by turned.now.left word < events_by turned.before.left None
      falls None less = omega (arith, less)
      falls (Some w) given = omega arith

      here : mutation_events most new turned.before.asked.mutation < mutation_events most old turned.before.asked.mutation
      here = rw (campaign, goal, rows, before, after, turned.none) (let less = falls turned.now.word turned.told in omega (arith, less))

      others : (k : ℕ) → k ≢ turned.before.asked.mutation → mutation_events most new k ≡ mutation_events most old k
      others k other =
          events_same k campaign goal (ap (λ (l : List Entry). mutation_left old.campaign old.goal.retry l k) rows)
          (ap (slot_of k) slots ∙ slot_same k old.slots slot (Some turned.before) (Some turned.now) turned.at (of_other k (Some turned.before) (λ b is same. other (sym same ∙ ap (λ (x : Busy). x.asked.mutation) (sym (same_Some turned.before b is)))))
          (of_other k (Some turned.now) (λ b is same. other (sym same ∙ ap (λ (x : Busy). x.asked.mutation) (sym (same_Some turned.now b is)) ∙ mutation))))

  pub committed_fewer : (slot : ℕ) → Committed old new slot → events_left most new < events_left most old
  committed_fewer slot committed = one_fewer committed.row.busy.asked.mutation busy.mutation campaign others here
    where
      busy : IsBusy gives old.campaign old.goal old.state.rows committed.row.busy
      busy = order.tests slot committed.row.busy committed.row.at

      campaign : new.campaign ≡ old.campaign
      campaign = ap (λ (s : Turns T). s.campaign) committed.is

      goal : new.goal ≡ old.goal
      goal = ap (λ (s : Turns T). s.goal) committed.is

      slots : new.slots ≡ set old.slots slot None
      slots = ap (λ (s : Turns T). s.slots) committed.is

      of_row : committed.entry.mutation ≡ committed.row.busy.asked.mutation
      of_row = committed.row.pair.0

      is_wanted : wanted old.campaign old.state.rows committed.entry.mutation old.goal ≡ Some (record { test = committed.entry.test; bound = committed.entry.bound })
      is_wanted = rw (committed.row.pair.0, committed.row.pair.1, committed.row.bound) busy.is_wanted

      test : committed.entry.test < length old.campaign.kinds
      test = committed.row.row.test

      others_apart : (j : ℕ) (a : Busy) → j ≢ slot → IsIn old.slots j a → a.asked.mutation ≢ committed.row.busy.asked.mutation
      others_apart j a other at same = other (order.apart j slot a committed.row.busy at committed.row.at same)

      before : slot_of committed.row.busy.asked.mutation old.slots ≡ Some committed.row.busy
      before = slot_this committed.row.busy.asked.mutation old.slots slot committed.row.busy committed.row.at refl others_apart

      after : slot_of committed.row.busy.asked.mutation new.slots ≡ None
      after = ap (slot_of committed.row.busy.asked.mutation) slots ∙ slot_none committed.row.busy.asked.mutation (set old.slots slot None) (λ j a at same.
          elim (in_set old.slots slot (inside old.slots slot (Some committed.row.busy) committed.row.at) None j a at) [
            | inl x ↦ (let never : None ≡ Some a = x.1 in cc)
            | inr x ↦ others_apart j a x.0 x.1 same
          ])

      left : mutation_left old.campaign old.goal.retry new.state.rows committed.row.busy.asked.mutation < mutation_left old.campaign old.goal.retry old.state.rows committed.row.busy.asked.mutation
      left =
          subst (λ (rows : List Entry). mutation_left old.campaign old.goal.retry rows committed.row.busy.asked.mutation < mutation_left old.campaign old.goal.retry old.state.rows committed.row.busy.asked.mutation) (sym committed.state.rows_are)
          (subst (λ (m : ℕ). mutation_left old.campaign old.goal.retry (old.state.rows ++ committed.entry ∷ []) m < mutation_left old.campaign old.goal.retry old.state.rows m) of_row
          (mutation_less old.campaign old.state.rows old.goal committed.entry is_wanted (few_tests committed.entry.test test) test))

      here : mutation_events most new committed.row.busy.asked.mutation < mutation_events most old committed.row.busy.asked.mutation
      here = rw (campaign, goal, before, after, committed.row.word)
          (fewer_committed (test_events most old.campaign old.goal) (mutation_left old.campaign old.goal.retry old.state.rows committed.row.busy.asked.mutation) (mutation_left old.campaign old.goal.retry new.state.rows committed.row.busy.asked.mutation) left)

      same_left : (k : ℕ) → k ≢ committed.row.busy.asked.mutation → mutation_left old.campaign old.goal.retry new.state.rows k ≡ mutation_left old.campaign old.goal.retry old.state.rows k
      same_left k other =
          ap (λ (rows : List Entry). mutation_left old.campaign old.goal.retry rows k) committed.state.rows_are
          ∙ ap sum (each_from-same (test_left old.goal.retry old.state.rows k) (test_left old.goal.retry (old.state.rows ++ committed.entry ∷ []) k) 0 (length old.campaign.kinds)
          (λ t above. left_other old.goal.retry old.state.rows committed.entry k t (λ pair. other (sym pair.0 ∙ of_row))))

      others : (k : ℕ) → k ≢ committed.row.busy.asked.mutation → mutation_events most new k ≡ mutation_events most old k
      others k other =
          events_same k campaign goal (same_left k other)
          (ap (slot_of k) slots ∙ slot_same k old.slots slot (Some committed.row.busy) None committed.row.at
          (of_other k (Some committed.row.busy) (λ b is same. other (sym same ∙ ap (λ (x : Busy). x.asked.mutation) (sym (same_Some committed.row.busy b is))))) refl)

-- an event but Stop that takes place
pub takes_fewer : {T : Type 0} (gives : Asked → ℕ → Type 0) (most : Asked → ℕ) (old new : Turns T) (e : Event) → IsUnderWay gives old → IsAllowed old e → Takes gives most old e new → e ≢ Stop → events_left most new < events_left most old
takes_fewer gives most old new (Start slot m t bound) order allowed taken other = started_fewer gives most old new order slot (record { mutation = m; test = t; bound = bound }) allowed.1 taken
takes_fewer gives most old new (Turn slot) order allowed taken other = turned_fewer gives most old new order slot taken
takes_fewer gives most old new (Commit slot) order allowed taken other = committed_fewer gives most old new order slot taken
takes_fewer gives most old new Stop order allowed taken other = absurd (other refl)
