-- The row of a slot's word, from what is kept before it is added to what is kept after it.
use Rattle.campaign_core.proofs.Common.{◌≡◌, ◌∙◌, arith, ℕ, ◌+◌, ◌<◌, List, [], ◌∷◌, ◌++◌, length, set, slice_get, Option, None, Some, refl, sym, ap, subst, option_map, length-map, Entry, Want}
use Rattle.campaign_core.proofs.Common.{IsWordOf, wanted, IsPair, IsRow, MayFollow, IsStateOf, Progress, length-each_from, Answered, Seat, Going, Committed, HasWord, IsRowOf, slot_after, IsKept}
use Rattle.campaign_core.proofs.Common.{AreJobs, IsJobOf, busy_of, seen, answered_at, Asked, GivesTheSame, Busy, IsIn, Turns, waits_for, IsUnderWay}
use Rattle.campaign_core.proofs.Appends.{row_of, word_told}
use Rattle.campaign_core.proofs.KeptLemmas.{busy_follows, committed_kept, jobs_set}
use Rattle.campaign_core.proofs.Rooms.{all_less}
use Rattle.campaign_core.proofs.SlotLemmas.{inside}
use Rattle.campaign_core.proofs.StageLemmas.{ended, told_is, told_there}
use Rattle.campaign_core.proofs.Taken.{committed_by}

module _ {T J : Type 0} (left : J → ℕ) (asked : J → Asked) (word : J → Option ℕ) (give : T → Asked → ℕ → Type 0) (has : T → J → Type 0) (mutations : T → ℕ) (kinds : T → List ℕ)
    (old s : Turns T) (view_is : old ≡ s) (slots : List (Option (Seat J))) (are : old.slots ≡ seen left slots) (wants : List (Option Want))
    (kept : IsKept (mutations old.tester) (kinds old.tester) (give old.tester) (has old.tester) asked word slots wants old)
    (slot : ℕ) (has_word : HasWord s slot) where
  -- the slot's word is there
  pub word_there : answered_at (slice_get slots slot) ≡ None → ⊥
  word_there none =
      let at : IsIn (seen left slots) slot has_word.busy = ap (λ (l : List (Option Busy)). slice_get l slot) (sym are) ∙ ap (λ (x : Turns T). slice_get x.slots slot) view_is ∙ has_word.at in
      told_there left slots slot has_word.busy has_word.word at has_word.some none

  module _ (told : Answered) (is : answered_at (slice_get slots slot) ≡ Some told) where
    at : IsIn old.slots slot (ended told)
    at = ap (λ (l : List (Option Busy)). slice_get l slot) are ∙ told_is left slots slot told is

    pub told_mutation : told.mutation < length old.campaign.mutations
    told_mutation = (kept.order.tests slot (ended told) at).mutation

    pub told_follows : MayFollow old.campaign old.state.rows told.mutation told.want.test told.want.bound
    told_follows =
        (busy_follows asked word (give old.tester) (give old.tester) (has old.tester) (has old.tester) (mutations old.tester) (mutations old.tester) (kinds old.tester) (kinds old.tester) old old slots slots wants wants kept
        slot (ended told) at).1

    pub told_word : IsWordOf old.campaign told.want.test told.word
    told_word = word_told old slot told at (give old.tester) kept.order

    pub told_slot : slot < length slots
    told_slot = let long = length-map slots (option_map (busy_of left)) in let within = inside old.slots slot (Some (ended told)) at in omega (arith, ap length are, long, within)

    pub told_place : told.mutation < length wants
    told_place = let long = length-each_from (waits_for old) 0 (length old.campaign.mutations) in omega (arith, ap length kept.wants_are, long, told_mutation)

    module _ (e : Entry) (row : IsRow old.campaign old.state.rows e) (pair : IsPair told.mutation told.want.test e) (word_is : e.word ≡ told.word) (bound_is : e.bound ≡ told.want.bound) where
      row_is : IsRowOf old slot e
      row_is = row_of old slot told at e row pair word_is bound_is

      pub row_here : IsRowOf s slot e
      row_here = subst (λ (x : Turns T). IsRowOf x slot e) view_is row_is

      -- there is room for it
      pub has_room : 0 < old.state.spare
      has_room =
          let is_wanted : wanted old.campaign old.state.rows e.mutation old.goal ≡ Some (record { test = e.test; bound = e.bound }) = rw (pair.0, pair.1, bound_is) (kept.order.tests slot (ended told) at).is_wanted in
          let less = all_less old.campaign old.state.rows old.goal e is_wanted (omega (arith, row.test, kept.order.fit.few_tests)) row.mutation row.test in
          omega (arith, less, kept.room)

      module _ (state : Progress) (state_is : IsStateOf old.campaign (old.state.rows ++ e ∷ []) state) (spare : state.spare + 1 ≡ old.state.spare)
          (first : ℕ) (first_is : first ≡ slot_after slot (length old.slots)) (now : List (Option Want)) (set_is : now ≡ set wants told.mutation (wanted old.campaign state.rows told.mutation old.goal)) where
        abbrev after : ℕ → Turns T
        after n = record old { state = state; slots = seen left (set slots slot None); first = n; acknowledged = old.acknowledged + 1 }

        abbrev committed : Committed old (after first) slot
        committed = record { entry = e; row = row_is; state = state_is; is = ap after first_is ∙ (committed_by left old old.tester slots are slot e state row_is state_is).is }

        no_job : (seat : Seat J) (job : J) → None ≡ Some seat → seat.work ≡ Going job → IsJobOf (has old.tester) asked word seat job
        no_job seat job never going = absurd (let h : None ≡ Some seat = never in cc)

        jobs : AreJobs (has old.tester) asked word (set slots slot None)
        jobs = jobs_set (has old.tester) (has old.tester) asked word slots (λ job h. h) kept.jobs slot None told_slot no_job

        same : GivesTheSame (give old.tester) (give old.tester)
        same = record { on = λ asked word h. h; back = λ asked word h. h }

        pub commit_kept : IsKept (mutations old.tester) (kinds old.tester) (give old.tester) (has old.tester) asked word (set slots slot None) now (after first)
        commit_kept =
            committed_kept asked word (give old.tester) (give old.tester) (has old.tester) (has old.tester) (mutations old.tester) (mutations old.tester) (kinds old.tester) (kinds old.tester) old (after first) slots (set slots slot None) wants now kept
            same refl refl jobs slot committed spare (subst (λ (m : ℕ). now ≡ set wants m (wanted old.campaign state.rows m old.goal)) (sym pair.0 ∙ row_is.pair.0) set_is)

        pub commit_taken : Committed s (after first) slot
        commit_taken = subst (λ (x : Turns T). Committed x (after first) slot) view_is committed

        pub commit_order : IsUnderWay (give old.tester) (after first)
        commit_order = commit_kept.order
