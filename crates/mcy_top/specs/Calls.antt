-- Laws of calls, by what a crash may leave before and after them.
use Rattle.std.specs.Prelude.{ℕ, ◌+◌, ◌≤◌, List, length, Option, Some}
use Rattle.mcy_keeper.specs.declared.book.Book.{Book}
use Rattle.mcy_keeper.specs.Books.{LeavesNothingNew}
use Rattle.mcy_outside.specs.Files.{Held}
use Rattle.campaign_plan.specs.declared.prepared.Prepared.{Prepared}
use Rattle.campaign_outcomes.specs.declared.outcome.Outcome.{Outcome}
use Rattle.campaign_run.specs.Rows.{IsPrefix}
use Rattle.campaign_run.specs.Crashes.{LeavesBooks}
use Rattle.campaign_run.specs.Changes.{IsNear}
use Rattle.mcy_top.specs.Life.{Life, Unloaded}
use Rattle.mcy_top.specs.Lives.{IsLife}

-- the longest book that is a first part of every book that a crash may leave, as they stand or upgraded
pub record IsSureBook (leaves : Option Book → Type 0) (book : Book) : Type 0 where
  pub prefix : (other : Book) → leaves (Some other) → IsPrefix book other
  pub longest : (shorter : Book) → ((other : Book) → leaves (Some other) → IsPrefix shorter other) → IsPrefix shorter book

-- the book has what a call is sure of as its first part, and every crash leaves a book that has one entry more at most
pub record IsCovered (leaves : Option Book → Type 0) (sure book : Book) : Type 0 where
  pub prefix : IsPrefix sure book
  pub one : LeavesBooks leaves (λ other. length other.journal ≤ length book.journal + 1)

-- What a call that has loaded a book is sure of is covered by the sure book of its keeper.
abbrev pub SureBookHasAll : (holds : Book → Type 0) (leaves leaves' : Option Book → Type 0) → Type 0
SureBookHasAll holds leaves leaves' = (words : List (List ℕ)) (held : Option Held) (written written' : Option (List ℕ)) (taken taken' : ℕ) (outcome : Outcome)
    → (life : Life words held holds leaves leaves' written written' taken taken' outcome) → (book : Book) → IsSureBook leaves' book → IsCovered leaves' life.work.sure book

-- A life from one book to another: a crash could leave the first before, and may now leave the last, or that book
-- with one change more.
pub record IsLived (leaves leaves' : Option Book → Type 0) (c : Prepared) (start sure : Book) : Type 0 where
  pub changes : List Book
  pub life : IsLife (record { prepared = c; start = start; changes = changes; sure = sure })
  pub started : leaves (Some start)
  pub near : LeavesBooks leaves' (IsNear c sure)

-- A call that has loaded a book is a life from that book to the one that it is sure of,
abbrev pub CallIsALife : (holds : Book → Type 0) (leaves leaves' : Option Book → Type 0) → Type 0
CallIsALife holds leaves leaves' = (words : List (List ℕ)) (held : Option Held) (written written' : Option (List ℕ)) (taken taken' : ℕ) (outcome : Outcome)
    → (life : Life words held holds leaves leaves' written written' taken taken' outcome) → IsLived leaves leaves' life.prepared life.loaded life.work.sure

-- and a call that has loaded none leaves nothing new.
abbrev pub UnloadedCallLeavesNothingNew : (leaves leaves' : Option Book → Type 0) → Type 0
UnloadedCallLeavesNothingNew leaves leaves' = (words : List (List ℕ)) (taken taken' : ℕ) (outcome : Outcome) → Unloaded words leaves leaves' taken taken' outcome → LeavesNothingNew leaves leaves'
