-- What making the tables and loading a book leave.
use Rattle.std.specs.Prelude.{◌≡◌, ◌⊎◌, ◌<◌, ℕ, [], false, Option, Some, None, IsTrue}
use Rattle.sqlite.specs.Effect.{Database, IsDatabase}
use Rattle.sqlite.specs.Change.{created}
use Rattle.sqlite.specs.Tree.{Trees}
use Rattle.sqlite.specs.Schema.{Schema}
use Rattle.sqlite.specs.State.{State}
use Rattle.sqlite.specs.Held.{Held}
use Rattle.mcy_keeper.specs.Books.{blank}
use Rattle.keeper_sqlite.specs.Stands.{IsBookOf, StandsFor, IsTold}
use Rattle.keeper_sqlite.specs.declared.read.JournalTable.TheVariants.{Second}
use Rattle.keeper_sqlite.specs.Rows.{rows_in}
use Rattle.keeper_sqlite.specs.Creating.{second_table}
use Rattle.keeper_sqlite.specs.Tables.{IsBookSchema, IsFirstSchema, no_schema}
use Rattle.keeper_sqlite.specs.Format.{format}
use Rattle.mcy_keeper.specs.declared.book.Book.{Book}

-- For proofs alone.

-- the transaction has the tables of the format, and they are empty
pub record HasCreated (old new : State) : Type 0 where
  pub was_open : IsTrue old.is_open
  pub tables : new.now.schema ≡ format
  pub shows : IsBookOf new.now.schema new.now.trees blank
  pub committed : new.committed ≡ old.committed

-- the tables are made and committed
pub record HasMade (old new : State) : Type 0 where
  pub was_open : IsTrue old.is_open
  pub tables : new.now.schema ≡ format
  pub told : IsTold new blank

-- the trees are those of the four tables with no row
abbrev pub AreMade : Trees → Type 0
AreMade trees = (schema : Schema) × IsBookOf schema trees blank

-- The tables are those that were there, with `journal2` beside three that lacked it, or where there was none those of the format.
abbrev pub FindsTables : Schema → Schema → Type 0
FindsTables old new = (IsBookSchema old × (new ≡ old)) ⊎ ((IsFirstSchema old × (new ≡ created old second_table)) ⊎ ((old ≡ no_schema) × (new ≡ format)))

-- `journal2` was made beside three tables: it has no row, and they have theirs
pub record AddsSecond (old new : Database) : Type 0 where
  pub tables : IsFirstSchema old.schema
  pub was_sound : IsDatabase old
  pub sound : IsDatabase new
  pub schema : new.schema ≡ created old.schema second_table
  pub kept : (t : ℕ) → t < 3 → new.trees t ≡ old.trees t
  pub empty : rows_in new.schema new.trees Second ≡ []

-- and that is committed
pub record HasAddedSecond (old new : State) : Type 0 where
  pub was_open : IsTrue old.is_open
  pub was_committed : old.committed ≡ old.now
  pub adds : AddsSecond old.now new.now
  pub is_open : IsTrue new.is_open
  pub autocommit : new.in_transaction ≡ false
  pub committed : new.committed ≡ new.now

-- The connection has the tables of a book: it had them, or it had three and made the fourth, or it had no table and made them.
pub record IsReady (old new : State) : Type 0 where
  pub autocommit : new.in_transaction ≡ false
  pub tables : IsBookSchema new.now.schema
  pub found : IsTrue new.is_open → FindsTables old.now.schema new.now.schema
  pub from : (IsTrue new.is_open → IsTrue old.is_open × (new.now ≡ old.now) × (old.committed ≡ old.now)) ⊎ (HasAddedSecond old new ⊎ (IsTrue old.is_open × StandsFor old.committed.trees blank × IsTold new blank))

-- what the making of the tables may commit: those of an empty book where there was none, or the three that were there and `journal2`
abbrev pub MayMake : State → Trees → Type 0
MayMake old trees =
    IsTrue old.is_open
    × ((StandsFor old.committed.trees blank × AreMade trees) ⊎ ((old.committed ≡ old.now) × ((after : Database) × AddsSecond old.now after × (trees ≡ after.trees))))

-- the connection tells this book, for which the last commit stood
pub record IsLoaded (old new : State) (book : Book) : Type 0 where
  pub was_open : IsTrue old.is_open
  pub stood : StandsFor old.committed.trees book
  pub tables : FindsTables old.now.schema new.now.schema
  pub told : IsTold new book

-- so it is of a keeper over a connection
abbrev pub LoadsTables : {S : Type 0} → Option (Held S) → Option (Held S) → Type 0
LoadsTables None new = ⊥
LoadsTables (Some old) None = ⊥
LoadsTables (Some old) (Some new) = FindsTables old.schema new.schema
