-- Which events are allowed, and what they do.
use Rattle.std.specs.Prelude.{◌≡◌, ℕ, ◌+◌, ◌<◌, ◌≤◌, true, false, [], ◌∷◌, ◌++◌, length, map, Option, None, Some, MatchOption, ⊤, nat_lt, slice_set, option_map, if◌then◌else◌}
use Rattle.mcy_keeper.specs.declared.book.Entry.{Entry}
use Rattle.result_book.specs.Campaigns.{IsWordOf}
use Rattle.result_book.specs.Rows.{IsPair, IsRow}
use Rattle.result_book.specs.States.{IsStateOf}
use Rattle.campaign_core.specs.declared.event.Event.{Event}
use Rattle.campaign_core.specs.declared.event.Event.TheVariants.{Start, Turn, Commit, Stop}
use Rattle.campaign_core.specs.Testers.{Asked}
use Rattle.campaign_core.specs.Turns.{Busy, IsFree, IsIn, Turns, waits_for}

-- the slot behind this one of so many, round to the first
abbrev pub slot_after : ℕ → ℕ → ℕ
slot_after slot count = if nat_lt (slot + 1) count then slot + 1 else 0

-- what a slot has, but for the turns that are left
abbrev pub asked_and_word : Option Busy → Option (Asked × Option ℕ)
asked_and_word slot = option_map (λ busy. (busy.asked, busy.word)) slot

module _ {T : Type 0} where
  -- The slot is free, and the mutation is in no slot and wants this test under this bound.
  pub record MayStart (s : Turns T) (slot : ℕ) (asked : Asked) : Type 0 where
    pub free : IsFree s.slots slot
    pub mutation : asked.mutation < length s.campaign.mutations
    pub waits : waits_for s asked.mutation ≡ Some (record { test = asked.test; bound = asked.bound })

  -- the slot's job has no word yet
  pub record IsGoing (s : Turns T) (slot : ℕ) : Type 0 where
    pub busy : Busy
    pub at : IsIn s.slots slot busy
    pub none : busy.word ≡ None

  -- it has one
  pub record HasWord (s : Turns T) (slot : ℕ) : Type 0 where
    pub busy : Busy
    pub word : ℕ
    pub at : IsIn s.slots slot busy
    pub some : busy.word ≡ Some word

  -- Stop is allowed always, and nothing else after it.
  abbrev pub IsAllowed : Turns T → Event → Type 0
  IsAllowed s (Start slot m t bound) = (s.is_stopped ≡ false) × MayStart s slot (record { mutation = m; test = t; bound = bound })
  IsAllowed s (Turn slot) = (s.is_stopped ≡ false) × IsGoing s slot
  IsAllowed s (Commit slot) = (s.is_stopped ≡ false) × HasWord s slot
  IsAllowed s Stop = ⊤

  -- a test was started in the slot
  pub record Started (most : Asked → ℕ) (old new : Turns T) (slot : ℕ) (asked : Asked) : Type 0 where
    pub busy : Busy
    pub asked_is : busy.asked ≡ asked
    pub none : busy.word ≡ None
    pub few : busy.left ≤ most asked
    pub is : new ≡ record old {
      tester = new.tester;
      slots = slice_set old.slots slot (Some busy);
      first = slot_after slot (length old.slots);
      started = old.started + 1;
    }

  -- The slot's job took a turn: it gave a word that its test may give, one of its kind, or has fewer turns left.
  pub record Turned (gives : Asked → ℕ → Type 0) (old new : Turns T) (slot : ℕ) : Type 0 where
    pub before : Busy
    pub now : Busy
    pub at : IsIn old.slots slot before
    pub none : before.word ≡ None
    pub same : now.asked ≡ before.asked
    pub told : MatchOption now.word (now.left < before.left) (λ word. gives before.asked word × IsWordOf old.campaign before.asked.test word)
    pub is : new ≡ record old { tester = new.tester; slots = slice_set old.slots slot (Some now); first = slot_after slot (length old.slots) }

  -- the row that the word of the slot's job makes
  pub record IsRowOf (s : Turns T) (slot : ℕ) (e : Entry) : Type 0 where
    pub busy : Busy
    pub at : IsIn s.slots slot busy
    pub row : IsRow s.campaign s.state.rows e
    pub pair : IsPair busy.asked.mutation busy.asked.test e
    pub bound : e.bound ≡ busy.asked.bound
    pub word : busy.word ≡ Some e.word

  -- that row was added, and the slot is free
  pub record Committed (old new : Turns T) (slot : ℕ) : Type 0 where
    pub entry : Entry
    pub row : IsRowOf old slot entry
    pub state : IsStateOf old.campaign (old.state.rows ++ entry ∷ []) new.state
    pub is : new ≡ record old {
      state = new.state;
      slots = slice_set old.slots slot None;
      first = slot_after slot (length old.slots);
      acknowledged = old.acknowledged + 1;
    }

  -- what an event does that takes place
  abbrev pub Takes : (Asked → ℕ → Type 0) → (Asked → ℕ) → Turns T → Event → Turns T → Type 0
  Takes gives most old (Start slot m t bound) new = Started most old new slot (record { mutation = m; test = t; bound = bound })
  Takes gives most old (Turn slot) new = Turned gives old new slot
  Takes gives most old (Commit slot) new = Committed old new slot
  Takes gives most old Stop new = new ≡ record old { is_stopped = true }

  -- After a refusal all is as before, but for the turns that the job has left.
  pub record IsUnchanged (old new : Turns T) : Type 0 where
    pub slots : map asked_and_word new.slots ≡ map asked_and_word old.slots
    pub is : new ≡ record old { tester = new.tester; slots = new.slots }
