-- The order in which a program takes events.
use Rattle.std.specs.Prelude.{◌≡◌, ℕ, zero, suc, ◌+◌, ◌-◌, ◌<◌, length, slice_get, Option, None, Some, is_some, option_map, option_and_then, if◌then◌else◌}
use Rattle.std.specs.List.{position_from}
use Rattle.std.specs.Option.{option_or}
use Rattle.result_book.specs.declared.goal.Want.{Want}
use Rattle.result_book.specs.Goals.{wanted}
use Rattle.campaign_core.specs.declared.event.Event.{Event}
use Rattle.campaign_core.specs.declared.event.Event.TheVariants.{Start, Turn, Commit}
use Rattle.campaign_core.specs.Turns.{Busy, Turns, waiting, waits_for}

-- the first event that so many slots give, from this one on
abbrev pub first_given : (ℕ → Option Event) → (slot count : ℕ) → Option Event
first_given give slot zero = None
first_given give slot (suc n) = option_or (give slot) (first_given give (slot + 1) n)

-- the start of a mutation's test in a slot
abbrev pub start_of : ℕ → ℕ → Want → Event
start_of slot m want = Start slot m want.test want.bound

module _ {T : Type 0} where
  -- the least mutation that waits
  abbrev pub least_waiting : Turns T → Option ℕ
  least_waiting s = position_from is_some 0 (waiting s)

  -- its start in this slot
  abbrev pub next_start : Turns T → ℕ → Option Event
  next_start s slot = option_and_then (λ m. option_map (start_of slot m) (waits_for s m)) (least_waiting s)

  -- What a slot gives: its job's commit where this has a word, else its turn, and where the slot is free the start of the least
  -- mutation that waits.
  abbrev pub given_at : Turns T → ℕ → Option (Option Busy) → Option Event
  given_at s slot None = None
  given_at s slot (Some None) = next_start s slot
  given_at s slot (Some (Some busy)) = Some (if is_some busy.word then Commit slot else Turn slot)

  abbrev pub slot_gives : Turns T → ℕ → Option Event
  slot_gives s slot = given_at s slot (slice_get s.slots slot)

  -- the slots are looked at from the first on, and then those before it
  abbrev pub next_event : Turns T → Option Event
  next_event s =
      if s.is_stopped then None
      else option_or (first_given (slot_gives s) s.first (length s.slots - s.first)) (first_given (slot_gives s) 0 s.first)

  -- no mutation wants a test
  abbrev pub WantsNone : Turns T → Type 0
  WantsNone s = (m : ℕ) → m < length s.campaign.mutations → wanted s.campaign s.state.rows m s.goal ≡ None
