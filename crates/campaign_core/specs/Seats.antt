-- What callers see of the slots.
use Rattle.std.specs.Prelude.{◌≡◌, ℕ, List, map, slice_get, Option, None, Some, option_map}
use Rattle.campaign_core.specs.declared.seat.Seat.{Seat}
use Rattle.campaign_core.specs.declared.seat.Work.{Work}
use Rattle.campaign_core.specs.declared.seat.Work.TheVariants.{Going, Told}
use Rattle.campaign_core.specs.Testers.{Asked}
use Rattle.campaign_core.specs.Turns.{Busy}

module _ {J : Type 0} where
  abbrev pub word_of : Work J → Option ℕ
  word_of (Going job) = None
  word_of (Told word) = Some word

  abbrev pub left_of : (J → ℕ) → Work J → ℕ
  left_of left (Going job) = left job
  left_of left (Told word) = 0

  abbrev pub asked_of : Seat J → Asked
  asked_of seat = record { mutation = seat.mutation; test = seat.want.test; bound = seat.want.bound }

  abbrev pub busy_of : (J → ℕ) → Seat J → Busy
  busy_of left seat = record { asked = asked_of seat; word = word_of seat.work; left = left_of left seat.work }

  -- the slots, as callers see them
  abbrev pub seen : (J → ℕ) → List (Option (Seat J)) → List (Option Busy)
  seen left slots = map (option_map (busy_of left)) slots

  -- the job is one of its tester, was started for the seat's test, and has given no word
  pub record IsJobOf (has : J → Type 0) (asked : J → Asked) (word : J → Option ℕ) (seat : Seat J) (job : J) : Type 0 where
    pub mine : has job
    pub asked_is : asked job ≡ asked_of seat
    pub none : word job ≡ None

  -- the jobs in these slots are
  abbrev pub AreJobs : (J → Type 0) → (J → Asked) → (J → Option ℕ) → List (Option (Seat J)) → Type 0
  AreJobs has asked word slots = (slot : ℕ) (seat : Seat J) (job : J) → slice_get slots slot ≡ Some (Some seat) → seat.work ≡ Going job → IsJobOf has asked word seat job
