-- Why a book is not loaded, but for want of memory.
use Rattle.std.specs.Prelude.{◌≡◌, ◌≢◌, ◌⊎◌, ℕ, ◌≤◌, ◌^◌, true, List, [], ◌∷◌, ◌++◌, map, length, Option, IsTrue, IsPermutation}
use Rattle.sqlite.specs.declared.error.Error.{Error}
use Rattle.sqlite.specs.Order.{Row}
use Rattle.sqlite.specs.Schema.{Schema}
use Rattle.sqlite.specs.Store.{Ghosts}
use Rattle.sqlite.specs.Held.{Held, state}
use Rattle.sqlite.specs.State.{State, IsUnchanged, FailsToQuery, Shown, Begins}
use Rattle.sqlite.specs.Steps.{FailsToCommit}
use Rattle.mcy_keeper.specs.declared.book.Entry.{Entry}
use Rattle.keeper_sqlite.specs.declared.read.ItemTable.{ItemTable}
use Rattle.keeper_sqlite.specs.declared.read.ItemTable.TheVariants.{Meta, Mutations}
use Rattle.keeper_sqlite.specs.declared.refusal.Refusal.TheVariants.{Database}
use Rattle.keeper_sqlite.specs.declared.statements.TheConstants.{CREATE_META, CREATE_MUTATIONS, CREATE_JOURNAL, CREATE_SECOND, SELECT_META, SELECT_MUTATIONS, SELECT_JOURNAL, SELECT_SECOND}
use Rattle.mcy_keeper.specs.declared.book.Book.{Book}
use Rattle.keeper_sqlite.specs.declared.read.JournalTable.{JournalTable}
use Rattle.keeper_sqlite.specs.declared.read.JournalTable.TheVariants.{First, Second}
use Rattle.keeper_sqlite.specs.Tables.{IsBookSchema, IsFirstSchema, no_schema}
use Rattle.keeper_sqlite.specs.Creating.{schema_of_meta, schema_of_items, schema_of_first, second_table, MakesTable}
use Rattle.keeper_sqlite.specs.Making.{HasCreated, IsReady}
use Rattle.keeper_sqlite.specs.Rows.{item_rows, other_of, shown_entry, shown_items, table_of, IsNoEntry, IsNoItem, RisesFrom}
use Rattle.keeper_sqlite.specs.Refusals.{FailsBy, IsRefusedInsideWith, refusal_of}

-- For proofs alone.

-- ---- the tables

-- the text makes the table that comes after these
abbrev pub IsNextTable : Schema → List ℕ → Type 0
IsNextTable schema text =
    ((schema ≡ no_schema) × (text ≡ CREATE_META.now))
    ⊎ (((schema ≡ schema_of_meta) × (text ≡ CREATE_MUTATIONS.now))
    ⊎ (((schema ≡ schema_of_items) × (text ≡ CREATE_JOURNAL.now)) ⊎ ((schema ≡ schema_of_first) × (text ≡ CREATE_SECOND.now))))

-- the making of the next table was refused
pub record IsCreateRefused {S : Type 0} (g : Ghosts S) (new : Held S) (error : Error) : Type 0 where
  pub before : Held S
  pub text : List ℕ
  pub next : IsNextTable before.schema text
  pub refused : IsRefusedInsideWith text [] (state g before) (state g new) error

-- once the tables were made, the commit was refused
pub record IsMakingRefused {S : Type 0} (g : Ghosts S) (old new : Held S) (error : Error) : Type 0 where
  pub before : Held S
  pub made : HasCreated (state g old) (state g before)
  pub refused : FailsToCommit (state g before) (state g new) error

-- ---- a table

-- the connection is as it was, where it is still open
abbrev pub IsStill : State → State → Type 0
IsStill old new = IsTrue new.is_open → IsUnchanged old new

-- the SELECT was refused, or stopped on the way, and not for want of memory
pub record IsNotShown {S : Type 0} (g : Ghosts S) (sql : List ℕ) (old new : Held S) : Type 0 where
  pub before : Held S
  pub still : IsStill (state g old) (state g before)
  pub error : Error
  pub failed : FailsToQuery sql [] (state g before) (state g new) error
  pub is : refusal_of error ≡ Database

-- the answer begins with more rows than there are numbers, or with a row that is none of such a list
abbrev pub ShowsNoList : {X : Type 0} → (List X → List Row) → (List X → Row → Type 0) → List ℕ → State → Type 0
ShowsNoList {X} shown IsNone sql s =
    (found : List X) × ((Begins sql [] s (shown found) × (2 ^ 32 ≤ length found)) ⊎ ((row : Row) × Begins sql [] s (shown found ++ row ∷ []) × IsNone found row))

-- the statement that reads a table of items
abbrev pub select_of : ItemTable → List ℕ
select_of Meta = SELECT_META.now
select_of Mutations = SELECT_MUTATIONS.now

-- the statement that reads a journal
abbrev pub select_from : JournalTable → List ℕ
select_from First = SELECT_JOURNAL.now
select_from Second = SELECT_SECOND.now

module _ {S : Type 0} (g : Ghosts S) where
  -- no items with the numbers from 0 are read
  abbrev pub IsNoItems : List ℕ → Held S → Held S → Type 0
  IsNoItems sql old new = IsNotShown g sql old new ⊎ ShowsNoList (shown_items 0) (λ items row. IsNoItem (length items) row) sql (state g old)

  abbrev pub IsNoEntries : JournalTable → List ℕ → Held S → Held S → Type 0
  IsNoEntries table sql old new = IsNotShown g sql old new ⊎ ShowsNoList (map (shown_entry table)) (λ _ row. IsNoEntry table row) sql (state g old)

  -- no entries are read, or their numbers do not rise
  abbrev pub IsNoJournal : JournalTable → Held S → Held S → Type 0
  IsNoJournal table old new =
      IsNoEntries table (select_from table) old new ⊎ ((entries : List Entry) × Shown (select_from table) [] (state g old) (state g new) (map (shown_entry table) entries) × (¬ RisesFrom 0 entries))

  -- the journal that is to have no rows is not read, or has some
  abbrev pub IsNotBare : JournalTable → Held S → Held S → Type 0
  IsNotBare table old new =
      IsNoEntries table (select_from table) old new ⊎ ((entries : List Entry) × Shown (select_from table) [] (state g old) (state g new) (map (shown_entry table) entries) × (entries ≢ []))

  -- so it is of the rows of a book: the journal that is to have none has some, or the other one is not read
  abbrev pub IsNoRows : JournalTable → Held S → Held S → Type 0
  IsNoRows table old new = IsNotBare (other_of table) old new ⊎ ((before : Held S) × IsStill (state g old) (state g before) × IsNoJournal table before new)

  -- ---- the book

  -- One of the tables is not read, or a journal has rows that is not the one of the book's format. The table is that of the items
  -- which were read before.
  abbrev pub IsNoBook : Held S → Held S → Type 0
  IsNoBook old new =
      (before : Held S) × IsStill (state g old) (state g before)
      × (((table : ItemTable) × IsNoItems (select_of table) before new)
      ⊎ ((book : Book) × IsPermutation (item_rows 0 book.meta) ((state g old).now.trees 0) × IsNoRows (table_of book) before new))

  -- in the transaction a table is not made, or the four are not committed
  abbrev pub AreNotMade : Held S → Error → Type 0
  AreNotMade start error = (after : Held S) × (IsCreateRefused g after error ⊎ IsMakingRefused g start after error)

  -- in the transaction `journal2` is not made beside the three tables, or that is not committed
  abbrev pub IsNotAddedTo : Held S → Error → Type 0
  IsNotAddedTo start error =
      (after : Held S) × (IsRefusedInsideWith CREATE_SECOND.now [] (state g start) (state g after) error
      ⊎ ((before : Held S) × MakesTable start.schema second_table (state g start) (state g before) × FailsToCommit (state g before) (state g after) error))

  -- a transaction is open, or there are other tables, or those of a book are not made
  abbrev pub IsUnready : Held S → Type 0
  IsUnready old =
      IsTrue old.in_transaction
      ⊎ (((¬ IsBookSchema old.schema) × (¬ IsFirstSchema old.schema) × (old.schema ≢ no_schema))
      ⊎ ((error : Error) × (refusal_of error ≡ Database)
      × ((IsFirstSchema old.schema × IsNotAddedTo (record old { in_transaction = true }) error) ⊎ AreNotMade (record old { in_transaction = true }) error)))

  -- so it is, or the tables hold no book
  abbrev pub IsNotLoaded : Held S → Held S → Type 0
  IsNotLoaded old new = IsUnready old ⊎ ((ready : Held S) × IsReady (state g old) (state g ready) × IsNoBook ready new)

  -- so it is of a keeper over a connection
  abbrev pub FailsToLoad : Option (Held S) → Option (Held S) → Type 0
  FailsToLoad = FailsBy IsNotLoaded
