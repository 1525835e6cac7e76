-- A keeper in memory that never fails, as its callers see it.
use Rattle.std.specs.Prelude.{Bool}
use Rattle.mcy_keeper.specs.declared.book.Book.{Book}

pub record Kept : Type 0 where
  -- the book that it keeps
  pub book : Book
  -- whether it was loaded
  pub settled : Bool
