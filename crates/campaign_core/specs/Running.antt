-- A program's run over a core: the events that come next, up to the end or to so many rows.
use Rattle.std.specs.Prelude.{◌≡◌, ◌⊎◌, ℕ, ◌+◌, ◌<◌, ◌≤◌, true, List, length, Option, None, Some, ⊤}
use Rattle.mcy_keeper.specs.declared.book.Entry.{Entry}
use Rattle.mcy_keeper.specs.declared.book.Book.{Book}
use Rattle.mcy_keeper.specs.Books.{with_entry}
use Rattle.result_book.specs.declared.campaign.Campaign.{Campaign}
use Rattle.campaign_core.specs.declared.event.Event.{Event}
use Rattle.campaign_core.specs.declared.event.Event.TheVariants.{Commit}
use Rattle.campaign_core.specs.Events.{IsRowOf, IsUnchanged}
use Rattle.campaign_core.specs.Laws.{Program}
use Rattle.campaign_core.specs.Orders.{WantsNone, next_event}
use Rattle.campaign_core.specs.Testers.{Asked}
use Rattle.campaign_core.specs.Turns.{Busy, Turns, busy_count}

-- the campaign's book with these rows, in the format in which books are begun
abbrev pub book_of : Campaign → List Entry → Book
book_of c rows = record { meta = c.meta; mutations = c.mutations; journal = rows }

-- as many rows were added as were asked for
abbrev pub Reached : Option ℕ → (before now : ℕ) → Type 0
Reached None before now = ⊥
Reached (Some stop) before now = now ≡ before + stop

-- no more were, if a number was asked for
abbrev pub IsWithin : Option ℕ → (before now : ℕ) → Type 0
IsWithin None before now = ⊤
IsWithin (Some stop) before now = now ≤ before + stop

-- some slot is free
abbrev pub HasFree : List (Option Busy) → Type 0
HasFree slots = busy_count slots < length slots

-- A crash leaves the book, or that with the row of the commit that comes next.
abbrev pub LeavesNext : {T : Type 0} → (Option Book → Type 0) → Turns T → Type 0
LeavesNext leaves s = (other : Option Book) → leaves other
    → (other ≡ Some (book_of s.campaign s.state.rows)) ⊎ ((slot : ℕ) × (e : Entry) × (next_event s ≡ Some (Commit slot)) × IsRowOf s slot e × (other ≡ Some (with_entry (book_of s.campaign s.state.rows) e)))

module _ {T : Type 0} (gives : T → Asked → ℕ → Type 0) (most : T → Asked → ℕ) where
  -- The events that come next led from one to the other, until no mutation wants a test or the rows asked for were added; where the
  -- core was stopped before, there are none. Where a slot was free at first, one is at the row that was asked for last.
  pub record Ran (stop : Option ℕ) (old new : Turns T) : Type 0 where
    pub events : List Event
    pub program : Program gives most old events new
    pub within : IsWithin stop old.acknowledged new.acknowledged
    pub ends : WantsNone new ⊎ (Reached stop old.acknowledged new.acknowledged ⊎ (old.is_stopped ≡ true))
    pub room : Reached stop old.acknowledged new.acknowledged → HasFree old.slots → HasFree new.slots

  -- they led to an event that was refused
  pub record Broke (stop : Option ℕ) (old new : Turns T) : Type 0 where
    pub events : List Event
    pub last : Turns T
    pub program : Program gives most old events last
    pub refused : Event
    pub comes : next_event last ≡ Some refused
    pub unchanged : IsUnchanged last new
    pub within : IsWithin stop old.acknowledged (last.acknowledged + 1)

  -- and a crash then leaves what that event was about to
  pub record Torn (stop : Option ℕ) (leaves : Option Book → Type 0) (old new : Turns T) : Type 0 where
    pub broke : Broke stop old new
    pub left : LeavesNext leaves broke.last
