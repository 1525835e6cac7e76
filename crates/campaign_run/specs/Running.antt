-- How the rows of a book grow in a run.
use Rattle.std.specs.Prelude.{◌≡◌, ◌⊎◌, ℕ, ◌+◌, ◌<◌, ◌≤◌, List, [], ◌∷◌, ◌++◌, length, Option, None, Some, ⊤}
use Rattle.mcy_keeper.specs.declared.book.Entry.{Entry}
use Rattle.mcy_keeper.specs.declared.book.Book.{Book}
use Rattle.mcy_keeper.specs.Books.{with_entry}
use Rattle.result_book.specs.declared.goal.Goal.{Goal}
use Rattle.result_book.specs.Goals.{wanted}
use Rattle.result_book.specs.Rows.{IsWellFormed}
use Rattle.campaign_plan.specs.declared.prepared.Prepared.{Prepared}
use Rattle.campaign_run.specs.Rows.{AreRight, GoesOn, IsNextRow}
use Rattle.campaign_run.specs.Crashes.{LeavesBooks}
use Rattle.campaign_run.specs.Changes.{Course}

-- it grew by no more than was asked for, if a number was
abbrev pub IsWithin : Option ℕ → ℕ → ℕ → Type 0
IsWithin None before now = ⊤
IsWithin (Some stop) before now = now ≤ before + stop

-- no mutation wants a test under the goal
abbrev pub WantsNone : Prepared → Goal → List Entry → Type 0
WantsNone c goal rows = (m : ℕ) → m < length c.campaign.mutations → wanted c.campaign rows m goal ≡ None

-- the row is of the test that its mutation wants on the rows before it, under the bound with which it wants it
abbrev pub IsWanted : Prepared → Goal → List Entry → Entry → Type 0
IsWanted c goal earlier e = wanted c.campaign earlier e.mutation goal ≡ Some (record { test = e.test; bound = e.bound })

-- Each of the later rows is. So a pair that has a row is run again only where its last word is UNKNOWN, under a bound below the goal's.
abbrev pub AreWanted : Prepared → Goal → (earlier rows : List Entry) → Type 0
AreWanted c goal earlier [] = Unit {0}
AreWanted c goal earlier (e ∷ more) = IsWanted c goal earlier e × AreWanted c goal (earlier ++ e ∷ []) more

-- For proofs alone.

-- the book of the campaign with these rows, in the format in which books are begun
abbrev pub book_of : Prepared → List Entry → Book
book_of c rows = record { meta = c.campaign.meta; mutations = c.campaign.mutations; journal = rows }

-- the campaign's run went on from one list of rows to the other
pub record Ran (c : Prepared) (goal : Goal) (start end : List Entry) : Type 0 where
  pub goes_on : GoesOn (book_of c start) (book_of c end)
  pub asked : AreWanted c goal start goes_on.more
  pub form : IsWellFormed c.campaign (book_of c end)
  pub words_right : AreRight c start → AreRight c end
  pub changes : List Book
  pub course : Course c (book_of c start) changes (book_of c end)

-- a crash leaves the book, or the book with the next row
abbrev pub LeavesNext : (Option Book → Type 0) → Prepared → Book → Type 0
LeavesNext leaves c sure = LeavesBooks leaves (λ other. (other ≡ sure) ⊎ ((e : Entry) × IsNextRow c sure e × (other ≡ with_entry sure e)))

-- What a run with so many slots leaves that want of memory or an error of the keeper ended: the row that may be left is within the rows
-- that were asked for, and each test that was started has its row or is in a slot.
pub record Broke (leaves : Option Book → Type 0) (c : Prepared) (goal : Goal) (slots : ℕ) (stop : Option ℕ) (start : List Entry) (before now : ℕ) : Type 0 where
  pub rows : List Entry
  pub ran : Ran c goal start rows
  pub left : LeavesNext leaves c (book_of c rows)
  pub within : IsWithin stop (length start) (length rows + 1)
  pub least : before + length rows ≤ now + length start
  pub steps : now + length start ≤ before + length rows + slots

-- as many rows were gained as were asked for
abbrev pub Reached : Option ℕ → List Entry → List Entry → Type 0
Reached None start end = ⊥
Reached (Some stop) start end = length end ≡ length start + stop
