-- How a slot stands, by what it has.
use Rattle.std.specs.Prelude.{ℕ, Option, None, Some}
use Rattle.campaign_core.specs.declared.seat.Answered.{Answered}
use Rattle.campaign_core.specs.declared.seat.Seat.{Seat}
use Rattle.campaign_core.specs.declared.seat.Stage.{Stage}
use Rattle.campaign_core.specs.declared.seat.Stage.TheVariants.{Absent, Free, Going, Told}
use Rattle.campaign_core.specs.Seats.{word_of}
use Rattle.campaign_core.specs.Turns.{Busy}

-- For proofs alone.

-- of a job with this word
abbrev pub by_word : Option ℕ → Stage
by_word None = Going
by_word (Some word) = Told

-- as callers see the slot
abbrev pub stage_of : Option (Option Busy) → Stage
stage_of None = Absent
stage_of (Some None) = Free
stage_of (Some (Some busy)) = by_word busy.word

-- as it is kept
abbrev pub raw_stage : {J : Type 0} → Option (Option (Seat J)) → Stage
raw_stage None = Absent
raw_stage (Some None) = Free
raw_stage (Some (Some seat)) = by_word (word_of seat.work)

-- the word of the job that a slot has, as it is kept
abbrev pub answered_by : {J : Type 0} → Seat J → Option ℕ → Option Answered
answered_by seat None = None
answered_by seat (Some word) = Some (record { mutation = seat.mutation; want = seat.want; word = word })

abbrev pub answered_at : {J : Type 0} → Option (Option (Seat J)) → Option Answered
answered_at None = None
answered_at (Some None) = None
answered_at (Some (Some seat)) = answered_by seat (word_of seat.work)
