-- What follows for every list of allowed events.
use Rattle.std.specs.Prelude.{◌≡◌, ◌⊎◌, ℕ, ◌+◌, List, [], ◌∷◌, ◌++◌, length, Some}
use Rattle.std.specs.List.{All}
use Rattle.mcy_keeper.specs.declared.book.Entry.{Entry}
use Rattle.campaign_core.specs.declared.event.Event.{Event}
use Rattle.campaign_core.specs.Events.{IsAllowed, IsUnchanged, Takes}
use Rattle.campaign_core.specs.Orders.{next_event}
use Rattle.campaign_core.specs.Testers.{Asked, GivesTheSame}
use Rattle.campaign_core.specs.Turns.{Turns}
use Rattle.campaign_core.specs.UnderWay.{IsUnderWay}

abbrev pub asked_in : Entry → Asked
asked_in e = record { mutation = e.mutation; test = e.test; bound = e.bound }

-- each of these rows has a word that its test may give under its bound
abbrev pub AreGiven : (Asked → ℕ → Type 0) → List Entry → Type 0
AreGiven gives rows = All (λ e. gives (asked_in e) e.word) rows

-- with a tester that gives and takes so
module _ {T : Type 0} (gives : T → Asked → ℕ → Type 0) (most : T → Asked → ℕ) where
  -- an allowed event came, and took place or was refused
  pub record Came (old : Turns T) (e : Event) (new : Turns T) : Type 0 where
    pub allowed : IsAllowed old e
    pub same : GivesTheSame (gives old.tester) (gives new.tester)
    pub taken : Takes (gives old.tester) (most old.tester) old e new ⊎ IsUnchanged old new

  -- one event after the other
  abbrev pub Course : Turns T → List Event → Turns T → Type 0
  Course start [] end = end ≡ start
  Course start (e ∷ more) end = (mid : Turns T) × Came start e mid × Course mid more end

-- The campaign is in order still, and has the rows that were acknowledged, with words that their tests may give.
pub record Kept {T : Type 0} (gives : T → Asked → ℕ → Type 0) (start end : Turns T) : Type 0 where
  pub order : IsUnderWay (gives end.tester) end
  pub campaign : end.campaign ≡ start.campaign
  pub goal : end.goal ≡ start.goal
  pub same : GivesTheSame (gives start.tester) (gives end.tester)
  pub more : List Entry
  pub rows : end.state.rows ≡ start.state.rows ++ more
  pub given : AreGiven (gives start.tester) more
  pub counted : end.acknowledged ≡ start.acknowledged + length more

-- The events of a program: each is the one that comes next. The tester's tests may give the same words throughout, after as many turns.
abbrev pub Program : {T : Type 0} → (T → Asked → ℕ → Type 0) → (T → Asked → ℕ) → Turns T → List Event → Turns T → Type 0
Program {T} gives most start [] end = end ≡ start
Program {T} gives most start (e ∷ more) end =
    (mid : Turns T) × (next_event start ≡ Some e) × GivesTheSame (gives start.tester) (gives mid.tester) × ((asked : Asked) → most mid.tester asked ≡ most start.tester asked) × Takes (gives start.tester) (most start.tester) start e mid × Program gives most mid more end
