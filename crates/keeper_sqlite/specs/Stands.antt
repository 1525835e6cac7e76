-- What trees stand for, and what a connection tells.
use Rattle.std.specs.Prelude.{◌≡◌, ◌⊎◌, Bool, false, IsTrue, Option, Some, None}
use Rattle.sqlite.specs.Tree.{Trees}
use Rattle.sqlite.specs.Schema.{Schema}
use Rattle.sqlite.specs.Store.{Ghosts}
use Rattle.sqlite.specs.Effect.{IsDatabase}
use Rattle.sqlite.specs.State.{State, HasCleanDisk}
use Rattle.sqlite.specs.Held.{Held, state}
use Rattle.mcy_keeper.specs.declared.book.Book.{Book}
use Rattle.mcy_keeper.specs.Books.{blank}
use Rattle.keeper_sqlite.specs.declared.read.JournalTable.{JournalTable}
use Rattle.keeper_sqlite.specs.Tables.{IsBookSchema, IsFirstSchema, no_schema}
use Rattle.keeper_sqlite.specs.Rows.{HoldsBook, table_of}

-- a database with such tables, whose rows are those of this book
pub record IsBookIn (Tables : Schema → Type 0) (schema : Schema) (trees : Trees) (book : Book) : Type 0 where
  pub sound : IsDatabase (record { schema = schema; trees = trees })
  pub tables : Tables schema
  pub rows : HoldsBook schema trees book

-- with the four tables of a book
abbrev pub IsBookOf : Schema → Trees → Book → Type 0
IsBookOf = IsBookIn IsBookSchema

-- with the three of a database that knows the first format alone
abbrev pub IsFirstBookOf : Schema → Trees → Book → Type 0
IsFirstBookOf = IsBookIn IsFirstSchema

-- The trees are a database of this book, with the four tables or the three. A database with no table stands for the empty book.
abbrev pub StandsFor : Trees → Book → Type 0
StandsFor trees book =
    ((schema : Schema) × IsBookOf schema trees book)
    ⊎ (((schema : Schema) × IsFirstBookOf schema trees book) ⊎ (IsDatabase (record { schema = no_schema; trees = trees }) × (book ≡ blank)))

-- the trees stand for this book, or for none
abbrev pub StandsAs : Trees → Option Book → Type 0
StandsAs trees None = (book : Book) → ¬ StandsFor trees book
StandsAs trees (Some book) = StandsFor trees book

-- the connection shows this book, and has committed it
pub record IsTold (s : State) (book : Book) : Type 0 where
  pub is_open : IsTrue s.is_open
  pub autocommit : s.in_transaction ≡ false
  pub shows : IsBookOf s.now.schema s.now.trees book
  pub committed : s.committed ≡ s.now

-- Of a keeper over a connection that may be missing: whether it tells, which book, and what a crash may leave.
module _ {S : Type 0} (g : Ghosts S) where
  -- it has a connection, and the store is clean: nobody else has written, and what was written was returned
  abbrev pub Tells : Option (Held S) → Type 0
  Tells None = ⊥
  Tells (Some c) = HasCleanDisk (state g c)

  -- while it is settled, the book that the connection shows and has committed, whose rows are in the journal that the keeper writes to
  abbrev pub Holds : Option (Held S) → Bool → JournalTable → Book → Type 0
  Holds None settled table book = ⊥
  Holds (Some c) settled table book = IsTrue settled × HasCleanDisk (state g c) × IsTold (state g c) book × (table_of book ≡ table)

  -- some trees that the store may leave stand for this book, or for none
  abbrev pub Leaves : Option (Held S) → Option Book → Type 0
  Leaves None left = ⊥
  Leaves (Some c) left = (trees : Trees) × (state g c).may_leave trees × StandsAs trees left
