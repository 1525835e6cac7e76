-- The changes that a call makes to the kept book, one keeper call after the other.
use Rattle.std.specs.Prelude.{◌≡◌, ◌⊎◌, List, [], ◌∷◌}
use Rattle.mcy_keeper.specs.declared.book.Entry.{Entry}
use Rattle.mcy_keeper.specs.declared.book.Book.{Book}
use Rattle.mcy_keeper.specs.Books.{IsBlank, IsFirst, with_entry, begun}
use Rattle.campaign_plan.specs.declared.prepared.Prepared.{Prepared}
use Rattle.result_book.specs.Rows.{upgrade_of, IsWellFormed}
use Rattle.campaign_run.specs.Rows.{IsNextRow}

-- the book after it has begun for the campaign
abbrev pub opened : Prepared → Book
opened c = begun c.campaign.meta c.campaign.mutations

-- the next row was added
pub record Added (c : Prepared) (book next : Book) : Type 0 where
  pub form : IsWellFormed c.campaign book
  pub row : Entry
  pub may : IsNextRow c book row
  pub is : next ≡ with_entry book row

-- the campaign's book of the first format was moved to the second
pub record Upgraded (c : Prepared) (book next : Book) : Type 0 where
  pub form : IsWellFormed c.campaign book
  pub first : IsFirst book
  pub is : next ≡ upgrade_of c.campaign book

-- the empty book was begun, the next row was added, or the book was upgraded
abbrev pub IsChange : Prepared → Book → Book → Type 0
IsChange c book next = (IsBlank book × (next ≡ opened c)) ⊎ (Added c book next ⊎ Upgraded c book next)

-- the books after each change, from the first to the last
abbrev pub Course : Prepared → Book → List Book → Book → Type 0
Course c start [] end = end ≡ start
Course c start (next ∷ more) end = IsChange c start next × Course c next more end

-- the book itself, or the book after one change
abbrev pub IsNear : Prepared → Book → Book → Type 0
IsNear c sure other = (other ≡ sure) ⊎ IsChange c sure other
