-- A test that is started in a slot, from what is kept before it to what is kept after it.
use Rattle.campaign_core.proofs.Common.{◌≡◌, arith, ℕ, ◌+◌, ◌<◌, ◌≤◌, List, length, set, Option, None, Some, refl, sym, ap, subst, option_map, length-map, Want, length-each_from, Seat, Going}
use Rattle.campaign_core.proofs.Common.{MayStart, Started, slot_after, IsKept, AreJobs, busy_of, seen, Asked, IsAskable, IsSame, Turns, waits_for, IsUnderWay}
use Rattle.campaign_core.proofs.KeptLemmas.{askable, jobs_set, jobs_still, started_kept, unchanged_kept}
use Rattle.campaign_core.proofs.SlotLemmas.{inside}
use Rattle.campaign_core.proofs.Taken.{job_here, started_by}

module _ {T J : Type 0} (left : J → ℕ) (asked : J → Asked) (word : J → Option ℕ) (give : T → Asked → ℕ → Type 0) (most : T → Asked → ℕ) (has : T → J → Type 0) (mutations : T → ℕ) (kinds : T → List ℕ)
    (old s : Turns T) (view_is : old ≡ s) (slots : List (Option (Seat J))) (are : old.slots ≡ seen left slots) (wants : List (Option Want))
    (kept : IsKept (mutations old.tester) (kinds old.tester) (give old.tester) (has old.tester) asked word slots wants old)
    (slot m : ℕ) (want : Want) (allowed : MayStart s slot (record { mutation = m; test = want.test; bound = want.bound })) where
  abbrev this : Asked
  this = record { mutation = m; test = want.test; bound = want.bound }

  may : MayStart old slot this
  may = subst (λ (x : Turns T). MayStart x slot this) (sym view_is) allowed

  pub start_asks : IsAskable (mutations old.tester) (kinds old.tester) this
  start_asks =
      askable asked word (give old.tester) (give old.tester) (has old.tester) (has old.tester) (mutations old.tester) (mutations old.tester) (kinds old.tester) (kinds old.tester) old old slots slots wants wants kept
      slot this may

  pub slot_within : slot < length slots
  slot_within = let long = length-map slots (option_map (busy_of left)) in let within = inside old.slots slot None may.free in omega (arith, ap length are, long, within)

  pub mutation_within : m < length wants
  mutation_within = let long = length-each_from (waits_for old) 0 (length old.campaign.mutations) in omega (arith, ap length kept.wants_are, long, may.mutation)

  module _ (tester : T) (same : IsSame (mutations old.tester) (mutations tester) (kinds old.tester) (kinds tester) (give old.tester) (give tester) (most old.tester) (most tester))
      (others : (job : J) → has old.tester job → has tester job) where
    -- there was no memory for its job
    pub refused_kept : IsKept (mutations tester) (kinds tester) (give tester) (has tester) asked word slots wants (record old { tester = tester })
    refused_kept =
        unchanged_kept asked word (give old.tester) (give tester) (has old.tester) (has tester) (mutations old.tester) (mutations tester) (kinds old.tester) (kinds tester) old (record old { tester = tester }) slots slots wants wants kept
        same.gives_are same.mutations_are same.kinds_are (jobs_still (has old.tester) (has tester) asked word slots others kept.jobs) (record { slots = refl; is = refl }) refl

    pub refused_order : IsUnderWay (give tester) (record old { tester = tester })
    refused_order = refused_kept.order

    -- it was started
    module _ (job : J) (mine : has tester job) (asked_is : asked job ≡ this) (none : word job ≡ None) (few : left job ≤ most old.tester this)
        (first : ℕ) (first_is : first ≡ slot_after slot (length old.slots)) (now : List (Option Want)) (set_is : now ≡ set wants m None) where
      abbrev seat : Seat J
      seat = record { mutation = m; want = want; work = Going job }

      abbrev after : ℕ → Turns T
      after n = record old { tester = tester; slots = seen left (set slots slot (Some seat)); first = n; started = old.started + 1 }

      jobs : AreJobs (has tester) asked word (set slots slot (Some seat))
      jobs = jobs_set (has old.tester) (has tester) asked word slots others kept.jobs slot (Some seat) slot_within (job_here (has tester) asked word seat job refl (record { mine = mine; asked_is = asked_is; none = none }))

      started : Started (most old.tester) old (after first) slot this
      started =
          subst (λ (n : ℕ). Started (most old.tester) old (after n) slot this) (sym first_is)
          (started_by left old tester slots are slot (most old.tester) this seat job refl refl few)

      pub start_kept : IsKept (mutations tester) (kinds tester) (give tester) (has tester) asked word (set slots slot (Some seat)) now (after first)
      start_kept =
          started_kept asked word (give old.tester) (give tester) (has old.tester) (has tester) (mutations old.tester) (mutations tester) (kinds old.tester) (kinds tester) old (after first) slots (set slots slot (Some seat)) wants now kept
          same.gives_are same.mutations_are same.kinds_are jobs (most old.tester) slot this may started set_is

      pub start_taken : Started (most s.tester) s (after first) slot this
      start_taken = subst (λ (x : Turns T). Started (most x.tester) x (after first) slot this) view_is started

      pub start_order : IsUnderWay (give tester) (after first)
      start_order = start_kept.order
