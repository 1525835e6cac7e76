-- A turn of the job in a slot, from what is kept before it to what is kept after it.
use Rattle.campaign_core.proofs.Common.{◌≡◌, ◌∙◌, ℕ, ◌<◌, List, length, get_or, set, slice_get, Option, None, Some, Result, Ok, Err, refl, sym, ap, subst, MatchOption, OnErr, get_or_from_slice_get}
use Rattle.campaign_core.proofs.Common.{same_Some, Want, Seat, Going, IsGoing, IsUnchanged, Turned, slot_after, IsKept, AreJobs, IsJobOf, asked_of, left_of, seen, word_of, Asked, IsSame, IsWordIn}
use Rattle.campaign_core.proofs.Common.{Busy, IsIn, Turns, IsUnderWay}
use Rattle.campaign_core.proofs.KeptLemmas.{jobs_set, seat_at, turned_kept, unchanged_kept}
use Rattle.campaign_core.proofs.SlotLemmas.{inside}
use Rattle.campaign_core.proofs.Taken.{jobs_here, refused_by, turned_by}

pub on_err : {X E : Type 0} (r : Result X E) (P : Type 0) → P → OnErr r P
on_err (Ok x) P p = tt
on_err (Err e) P p = p

module _ {T J : Type 0} (left : J → ℕ) (asked : J → Asked) (word : J → Option ℕ) (give : T → Asked → ℕ → Type 0) (most : T → Asked → ℕ) (has : T → J → Type 0) (mutations : T → ℕ) (kinds : T → List ℕ)
    (old s : Turns T) (view_is : old ≡ s) (slots : List (Option (Seat J))) (are : old.slots ≡ seen left slots) (wants : List (Option Want))
    (kept : IsKept (mutations old.tester) (kinds old.tester) (give old.tester) (has old.tester) asked word slots wants old)
    (slot : ℕ) (going : IsGoing s slot) (d : Option (Seat J)) (read : d ≡ get_or slots slot d) (seat : Seat J) (is : d ≡ Some seat) where
  -- the seat is the one whose job has no word yet
  seat_found : (slice_get slots slot ≡ Some (Some seat)) × (word_of seat.work ≡ None)
  seat_found =
      let at : IsIn (seen left slots) slot going.busy = ap (λ (l : List (Option Busy)). slice_get l slot) (sym are) ∙ ap (λ (x : Turns T). slice_get x.slots slot) view_is ∙ going.at in
      let found = seat_at left slots slot going.busy at in
      let there : get_or slots slot d ≡ Some found.0 = get_or_from_slice_get slots slot (Some found.0) d found.1 in
      let one : found.0 ≡ seat = same_Some found.0 seat (sym there ∙ sym read ∙ is) in
      (found.1 ∙ ap (λ (x : Seat J). Some (Some x)) one, ap (λ (x : Seat J). word_of x.work) (sym one) ∙ ap (λ (b : Busy). b.word) found.2 ∙ going.none)

  pub job_there : (job : J) → seat.work ≡ Going job → IsJobOf (has old.tester) asked word seat job
  job_there job work = kept.jobs slot seat job seat_found.0 work

  module _ (tester : T) (now : Seat J) (pair : asked_of now ≡ asked_of seat)
      (same : IsSame (mutations old.tester) (mutations tester) (kinds old.tester) (kinds tester) (give old.tester) (give tester) (most old.tester) (most tester))
      (others : (job : J) → has old.tester job → has tester job) (each : (job : J) → now.work ≡ Going job → IsJobOf (has tester) asked word now job) where
    abbrev after : ℕ → Turns T
    after first = record old { tester = tester; slots = seen left (set slots slot (Some now)); first = first }

    jobs : AreJobs (has tester) asked word (set slots slot (Some now))
    jobs = jobs_set (has old.tester) (has tester) asked word slots others kept.jobs slot (Some now) (inside slots slot (Some seat) seat_found.0) (jobs_here (has tester) asked word now each)

    -- the job was refused memory
    unchanged : word_of now.work ≡ None → IsUnchanged old (after old.first)
    unchanged none = refused_by left old tester slots are slot seat now seat_found.0 seat_found.1 pair none

    pub refused_kept : word_of now.work ≡ None → IsKept (mutations tester) (kinds tester) (give tester) (has tester) asked word (set slots slot (Some now)) wants (after old.first)
    refused_kept none =
        unchanged_kept asked word (give old.tester) (give tester) (has old.tester) (has tester) (mutations old.tester) (mutations tester) (kinds old.tester) (kinds tester) old (after old.first) slots (set slots slot (Some now)) wants wants kept
        same.gives_are same.mutations_are same.kinds_are jobs (unchanged none) refl

    pub refused_same : word_of now.work ≡ None → IsUnchanged s (after old.first)
    refused_same none = subst (λ (x : Turns T). IsUnchanged x (after old.first)) view_is (unchanged none)

    pub refused_order : word_of now.work ≡ None → IsUnderWay (give tester) (after old.first)
    refused_order none = (refused_kept none).order

    -- it took its turn
    module _ (first : ℕ) (first_is : first ≡ slot_after slot (length old.slots))
        (told : MatchOption (word_of now.work) (left_of left now.work < left_of left seat.work) (λ w. give old.tester (asked_of seat) w × IsWordIn (kinds old.tester) seat.want.test w)) where
      taken : Turned (give old.tester) old (after first) slot
      taken =
          subst (λ (n : ℕ). Turned (give old.tester) old (after n) slot) (sym first_is)
          (turned_by left old tester slots are slot seat now seat_found.0 seat_found.1 pair (give old.tester) (kinds old.tester) kept.kinds_are told)

      pub turn_kept : IsKept (mutations tester) (kinds tester) (give tester) (has tester) asked word (set slots slot (Some now)) wants (after first)
      turn_kept =
          turned_kept asked word (give old.tester) (give tester) (has old.tester) (has tester) (mutations old.tester) (mutations tester) (kinds old.tester) (kinds tester) old (after first) slots (set slots slot (Some now)) wants wants kept
          same.gives_are same.mutations_are same.kinds_are jobs slot taken refl

      pub turn_taken : Turned (give s.tester) s (after first) slot
      turn_taken = subst (λ (x : Turns T). Turned (give x.tester) x (after first) slot) view_is taken

      pub turn_order : IsUnderWay (give tester) (after first)
      turn_order = turn_kept.order
