-- What the calls of a core leave of its parts.
use Rattle.campaign_core.proofs.Common.{◌≡◌, inl, inr, arith, ℕ, zero, suc, ◌+◌, ◌<◌, ◌≤◌, Bool, true, false, cond, List, [], ◌∷◌, ◌++◌, length, set, slice_get, Option, None, Some, refl, sym, ◌∙◌, ap}
use Rattle.campaign_core.proofs.Common.{subst, is_some, option_map, eqb_tells, slice_get-map, same_Some, Want, is_sim, wanted, MayFollow, few_rows, want_follows, Seat, Going, Committed, IsUnchanged}
use Rattle.campaign_core.proofs.Common.{MayStart, Started, Turned, IsKept, all_left, AreJobs, IsJobOf, busy_of, seen, Asked, GivesTheSame, IsAskable, Busy, IsIn, Turns, busy_count, IsUnderWay}
use Rattle.result_book.proofs.Following.{bound_within}
use Rattle.campaign_core.proofs.Orderly.{committed_order, started_order, turned_order, unchanged_order, waits_some}
use Rattle.campaign_core.proofs.Rooms.{all_less}
use Rattle.campaign_core.proofs.SlotLemmas.{count_first, set_here, set_other}
use Rattle.campaign_core.proofs.Waited.{waiting_committed, waiting_started, waiting_turned, waiting_unchanged}

-- ---- the slots, as callers see them

module _ {J : Type 0} (left : J → ℕ) where
  pub seen_set : (slots : List (Option (Seat J))) (k : ℕ) (v : Option (Seat J)) → seen left (set slots k v) ≡ set (seen left slots) k (option_map (busy_of left) v)
  seen_set [] k v = refl
  seen_set (x ∷ slots) zero v = refl
  seen_set (x ∷ slots) (suc k) v = ap (λ (l : List (Option Busy)). option_map (busy_of left) x ∷ l) (seen_set slots k v)

  pub seen_at : (slots : List (Option (Seat J))) (k : ℕ) → slice_get (seen left slots) k ≡ option_map (option_map (busy_of left)) (slice_get slots k)
  seen_at slots k = slice_get-map (option_map (busy_of left)) slots k

  -- the seat of a test that callers see
  pub seat_at : (slots : List (Option (Seat J))) (k : ℕ) (b : Busy) → IsIn (seen left slots) k b → (seat : Seat J) × (slice_get slots k ≡ Some (Some seat)) × (busy_of left seat ≡ b)
  seat_at slots k b at = go (slice_get slots k) refl (sym (seen_at slots k) ∙ at)
    where
      busy_is : (x y : Busy) → Some (Some x) ≡ Some (Some y) → x ≡ y
      busy_is x y e = cc

      go : (o : Option (Option (Seat J))) → slice_get slots k ≡ o → option_map (option_map (busy_of left)) o ≡ Some (Some b) → (seat : Seat J) × (slice_get slots k ≡ Some (Some seat)) × (busy_of left seat ≡ b)
      go None is e = absurd (let never : None ≡ Some (Some b) = e in cc)
      go (Some None) is e = absurd (let never : Some None ≡ Some (Some b) = e in cc)
      go (Some (Some seat)) is e = (seat, is, busy_is (busy_of left seat) b e)

-- ---- the jobs

module _ {J : Type 0} (has has' : J → Type 0) (asked : J → Asked) (word : J → Option ℕ) (slots : List (Option (Seat J))) (others : (job : J) → has job → has' job) (are : AreJobs has asked word slots) where
  pub jobs_still : AreJobs has' asked word slots
  jobs_still k seat job at going = let is = are k seat job at going in record { mine = others job is.mine; asked_is = is.asked_is; none = is.none }

  -- one slot has something else
  pub jobs_set : (k : ℕ) (v : Option (Seat J)) → k < length slots → ((seat : Seat J) (job : J) → v ≡ Some seat → seat.work ≡ Going job → IsJobOf has' asked word seat job) → AreJobs has' asked word (set slots k v)
  jobs_set k v within one j seat job at going = elim (eqb_tells j k) [
    | inl h ↦ one seat job (same_Some v (Some seat) (sym (set_here slots k v within) ∙ ap (λ (i : ℕ). slice_get (set slots k v) i) (sym h.1) ∙ at)) going
    | inr h ↦ jobs_still j seat job (sym (set_other slots k j v h.1) ∙ at) going
  ]

-- ---- the counts

pub busy_most : (slots : List (Option Busy)) → busy_count slots ≤ length slots
busy_most [] = omega arith
busy_most (x ∷ slots) = omega (arith, count_first x slots, one (is_some x), busy_most slots)
  where
    one : (b : Bool) → cond b 1 0 ≤ 1
    one true = omega arith
    one false = omega arith

-- the counts are far from the greatest number
pub few_counts : {T : Type 0} (gives : Asked → ℕ → Type 0) (s : Turns T) → IsUnderWay gives s → (s.started < 100000000) × (s.acknowledged < 100000000)
few_counts gives s order =
    let rows = few_rows s.campaign s.state.rows order.fit order.form.form in
    let most = busy_most s.slots in
    (omega (arith, rows, order.fit.few_mutations, order.counts, order.rows, most, order.few_slots), omega (arith, rows, order.fit.few_mutations, order.rows))

-- ---- the parts of a core, before a call and after it

module _ {T J : Type 0} (asked : J → Asked) (word : J → Option ℕ) (gives gives' : Asked → ℕ → Type 0) (has has' : J → Type 0) (mutations mutations' : ℕ) (kinds kinds' : List ℕ)
    (old new : Turns T) (slots slots' : List (Option (Seat J))) (wants wants' : List (Option Want))
    (kept : IsKept mutations kinds gives has asked word slots wants old) where
  -- a test that may be started may be asked
  pub askable : (slot : ℕ) (a : Asked) → MayStart old slot a → IsAskable mutations kinds a
  askable slot a may = record {
    mutation = subst (λ (n : ℕ). a.mutation < n) (sym kept.mutations_are) may.mutation;
    test = subst (λ (ks : List ℕ). a.test < length ks) (sym kept.kinds_are) follows.0;
    bound = λ sim. bound_within old.campaign old.state.rows a.mutation a.test a.bound kept.order.fit (ap (λ (ks : List ℕ). is_sim (slice_get ks a.test)) (sym kept.kinds_are) ∙ sim) follows.1;
  }
    where
      follows : (a.test < length old.campaign.kinds) × MayFollow old.campaign old.state.rows a.mutation a.test a.bound
      follows = want_follows old.campaign old.state.rows a.mutation old.goal (record { test = a.test; bound = a.bound }) kept.order.fit kept.order.is_goal kept.order.form.form may.mutation
          (waits_some old a.mutation (record { test = a.test; bound = a.bound }) may.waits).1

  -- what a test in a slot makes, may be the next row
  pub busy_follows : (slot : ℕ) (b : Busy) → IsIn old.slots slot b → (b.asked.test < length old.campaign.kinds) × MayFollow old.campaign old.state.rows b.asked.mutation b.asked.test b.asked.bound
  busy_follows slot b at =
      let busy = kept.order.tests slot b at in
      want_follows old.campaign old.state.rows b.asked.mutation old.goal (record { test = b.asked.test; bound = b.asked.bound }) kept.order.fit kept.order.is_goal kept.order.form.form busy.mutation busy.is_wanted

  module _ (same : GivesTheSame gives gives') (mutations_same : mutations' ≡ mutations) (kinds_same : kinds' ≡ kinds) (jobs : AreJobs has' asked word slots') where
    pub started_kept : (most : Asked → ℕ) (slot : ℕ) (a : Asked) → MayStart old slot a → Started most old new slot a → wants' ≡ set wants a.mutation None → IsKept mutations' kinds' gives' has' asked word slots' wants' new
    started_kept most slot a may started is = record {
      order = started_order gives gives' most old new same kept.order slot a may started;
      jobs = jobs;
      wants_are = is ∙ ap (λ (w : List (Option Want)). set w a.mutation None) kept.wants_are ∙ sym (waiting_started old new most slot a may started);
      room = subst (λ (s : Turns T). all_left s.campaign s.goal.retry s.state.rows ≤ s.state.spare) (sym started.is) kept.room;
      mutations_are = mutations_same ∙ kept.mutations_are ∙ ap (λ (s : Turns T). length s.campaign.mutations) (sym started.is);
      kinds_are = kinds_same ∙ kept.kinds_are ∙ ap (λ (s : Turns T). s.campaign.kinds) (sym started.is);
    }

    pub turned_kept : (slot : ℕ) → Turned gives old new slot → wants' ≡ wants → IsKept mutations' kinds' gives' has' asked word slots' wants' new
    turned_kept slot turned is = record {
      order = turned_order gives gives' (λ a. 0) old new same kept.order slot turned;
      jobs = jobs;
      wants_are = is ∙ kept.wants_are ∙ sym (waiting_turned old new gives slot turned);
      room = subst (λ (s : Turns T). all_left s.campaign s.goal.retry s.state.rows ≤ s.state.spare) (sym turned.is) kept.room;
      mutations_are = mutations_same ∙ kept.mutations_are ∙ ap (λ (s : Turns T). length s.campaign.mutations) (sym turned.is);
      kinds_are = kinds_same ∙ kept.kinds_are ∙ ap (λ (s : Turns T). s.campaign.kinds) (sym turned.is);
    }

    pub unchanged_kept : IsUnchanged old new → wants' ≡ wants → IsKept mutations' kinds' gives' has' asked word slots' wants' new
    unchanged_kept un is = record {
      order = unchanged_order gives gives' (λ a. 0) old new same kept.order un;
      jobs = jobs;
      wants_are = is ∙ kept.wants_are ∙ sym (waiting_unchanged old new un);
      room = subst (λ (s : Turns T). all_left s.campaign s.goal.retry s.state.rows ≤ s.state.spare) (sym un.is) kept.room;
      mutations_are = mutations_same ∙ kept.mutations_are ∙ ap (λ (s : Turns T). length s.campaign.mutations) (sym un.is);
      kinds_are = kinds_same ∙ kept.kinds_are ∙ ap (λ (s : Turns T). s.campaign.kinds) (sym un.is);
    }

    pub committed_kept : (slot : ℕ) (committed : Committed old new slot) → new.state.spare + 1 ≡ old.state.spare
        → wants' ≡ set wants committed.row.busy.asked.mutation (wanted new.campaign new.state.rows committed.row.busy.asked.mutation new.goal) → IsKept mutations' kinds' gives' has' asked word slots' wants' new
    committed_kept slot committed spare is = record {
      order = committed_order gives gives' (λ a. 0) old new same kept.order slot committed;
      jobs = jobs;
      wants_are = is ∙ ap (λ (w : List (Option Want)). set w committed.row.busy.asked.mutation (wanted new.campaign new.state.rows committed.row.busy.asked.mutation new.goal)) kept.wants_are ∙ sym (waiting_committed old new gives kept.order slot committed);
      room = room;
      mutations_are = mutations_same ∙ kept.mutations_are ∙ ap (λ (s : Turns T). length s.campaign.mutations) (sym committed.is);
      kinds_are = kinds_same ∙ kept.kinds_are ∙ ap (λ (s : Turns T). s.campaign.kinds) (sym committed.is);
    }
      where
        is_wanted : wanted old.campaign old.state.rows committed.entry.mutation old.goal ≡ Some (record { test = committed.entry.test; bound = committed.entry.bound })
        is_wanted = rw (committed.row.pair.0, committed.row.pair.1, committed.row.bound) (kept.order.tests slot committed.row.busy committed.row.at).is_wanted

        inside : committed.entry.test < 16
        inside = omega (arith, committed.row.row.test, kept.order.fit.few_tests)

        room : all_left new.campaign new.goal.retry new.state.rows ≤ new.state.spare
        room =
            let less = all_less old.campaign old.state.rows old.goal committed.entry is_wanted inside committed.row.row.mutation committed.row.row.test in
            let now : all_left new.campaign new.goal.retry new.state.rows ≡ all_left old.campaign old.goal.retry (old.state.rows ++ committed.entry ∷ []) = rw (ap (λ (s : Turns T). s.campaign) committed.is, ap (λ (s : Turns T). s.goal) committed.is, committed.state.rows_are) refl in
            omega (arith, less, now, spare, kept.room)
