-- What the migration of a book to the second format leaves, and why it fails.
use Rattle.std.specs.Prelude.{◌≡◌, ◌≢◌, ◌⊎◌, ℕ, true, false, List, [], ◌++◌, map, slice_get, take, Option, Some, IsTrue, IsPermutation}
use Rattle.sqlite.specs.Tree.{Trees}
use Rattle.sqlite.specs.Order.{Row}
use Rattle.sqlite.specs.Store.{Ghosts}
use Rattle.sqlite.specs.Held.{Held, state}
use Rattle.sqlite.specs.Effect.{Database, IsDatabase}
use Rattle.sqlite.specs.State.{State, FailsToQuery, IsUnchanged, Shown}
use Rattle.sqlite.specs.declared.error.Error.{Error}
use Rattle.mcy_keeper.specs.declared.book.Entry.{Entry}
use Rattle.mcy_keeper.specs.Books.{in_second, with_bounds}
use Rattle.keeper_sqlite.specs.declared.read.JournalTable.TheVariants.{First, Second}
use Rattle.keeper_sqlite.specs.declared.refusal.Refusal.TheVariants.{Database as Fault}
use Rattle.keeper_sqlite.specs.declared.statements.TheConstants.{SELECT_JOURNAL, INSERT_BOUNDED, CLEAR_JOURNAL, NUMBER_SECOND}
use Rattle.keeper_sqlite.specs.Tables.{IsBookSchema, second_tree}
use Rattle.keeper_sqlite.specs.Rows.{entry_row, item_rows, rows_in, shown_entry, HoldsJournal, IsNoEntry, RisesFrom}
use Rattle.keeper_sqlite.specs.Writing.{IsOfBook, Wrote}
use Rattle.keeper_sqlite.specs.Refusals.{FailsBy, IsNotCommitted, IsNotProbed, IsRefusedInside, refusal_of}

-- For proofs alone.

-- ---- the rows

-- These rows stand in `journal2`, those of `journal`, where they are entries, are gone, and item 0 of meta is the number of the second
-- format.
pub record Moves (old new : Database) (rows : List Entry) : Type 0 where
  pub schema : new.schema ≡ old.schema
  pub meta_rows : (items : List (List ℕ)) → IsPermutation (item_rows 0 items) (old.trees 0) → IsPermutation (item_rows 0 (in_second items)) (new.trees 0)
  pub mutation_rows : new.trees 1 ≡ old.trees 1
  pub first_rows : (entries : List Entry) → IsPermutation (map (entry_row First) entries) (old.trees 2) → new.trees 2 ≡ []
  pub second_rows : IsPermutation (map (entry_row Second) rows ++ rows_in old.schema old.trees Second) (rows_in new.schema new.trees Second)
  pub sound : IsDatabase old → IsDatabase new

-- The rows of `journal`, which are these entries, were moved so, each with its bound.
pub record Upgrades (old new : Database) (bounds : List ℕ) (entries : List Entry) : Type 0 where
  pub was : HoldsJournal First (old.trees 2) entries
  pub rows : Moves old new (with_bounds bounds entries)

-- the rows of `journal`, where they are entries, are deleted
pub record Clears (old new : State) : Type 0 where
  pub schema : new.now.schema ≡ old.now.schema
  pub empty : (entries : List Entry) → IsPermutation (map (entry_row First) entries) (old.now.trees 2) → new.now.trees 2 ≡ []
  pub others : (t : ℕ) → t ≢ 2 → IsOfBook old.now.schema t → new.now.trees t ≡ old.now.trees t
  pub sound : IsDatabase old.now → IsDatabase new.now
  pub committed : new.committed ≡ old.committed
  pub mode : IsTrue new.in_transaction

-- item 0 of meta is the number of the second format
pub record Renumbers (old new : State) : Type 0 where
  pub schema : new.now.schema ≡ old.now.schema
  pub own : (items : List (List ℕ)) → IsPermutation (item_rows 0 items) (old.now.trees 0) → IsPermutation (item_rows 0 (in_second items)) (new.now.trees 0)
  pub others : (t : ℕ) → t ≢ 0 → IsOfBook old.now.schema t → new.now.trees t ≡ old.now.trees t
  pub sound : IsDatabase old.now → IsDatabase new.now
  pub committed : new.committed ≡ old.committed
  pub mode : IsTrue new.in_transaction

-- the statements of the transaction have moved these rows
pub record HasMoved (old new : State) (moved : List Entry) : Type 0 where
  pub rows : Moves old.now new.now moved
  pub committed : new.committed ≡ old.committed
  pub mode : IsTrue new.in_transaction

-- and so they have upgraded the book
pub record UpgradesInside (old new : State) (bounds : List ℕ) : Type 0 where
  pub entries : List Entry
  pub rows : Upgrades old.now new.now bounds entries
  pub committed : new.committed ≡ old.committed
  pub mode : IsTrue new.in_transaction

-- and that is committed
pub record HasUpgraded (old new : State) (bounds : List ℕ) : Type 0 where
  pub entries : List Entry
  pub rows : Upgrades old.now new.now bounds entries
  pub is_open : IsTrue new.is_open
  pub autocommit : new.in_transaction ≡ false
  pub committed : new.committed ≡ new.now

-- what the transaction may commit
abbrev pub MayUpgrade : Database → List ℕ → Trees → Type 0
MayUpgrade old bounds trees = (after : Database) × (entries : List Entry) × Upgrades old after bounds entries × (trees ≡ after.trees)

-- ---- why it fails

module _ {S : Type 0} (g : Ghosts S) where
  -- the rows are not read: the SELECT was refused, a row is no entry, or the numbers do not rise
  abbrev pub IsNotRead : Held S → Held S → Type 0
  IsNotRead old new =
      ((error : Error) × FailsToQuery SELECT_JOURNAL.now [] (state g old) (state g new) error × (refusal_of error ≡ Fault))
      ⊎ ((rows : List Row) × Shown SELECT_JOURNAL.now [] (state g old) (state g new) rows
      × (((at : ℕ) × (row : Row) × (slice_get rows at ≡ Some row) × IsNoEntry First row) ⊎ ((entries : List Entry) × (rows ≡ map (shown_entry First) entries) × (¬ RisesFrom 0 entries))))

  -- the INSERT of an entry was refused, once those before it were written
  pub record IsEntryRefused (entries : List Entry) (old new : Held S) : Type 0 where
    pub number : ℕ
    pub entry : Entry
    pub is : slice_get entries number ≡ Some entry
    pub before : Held S
    pub written : IsBookSchema old.schema → Wrote (second_tree old.schema) (map (entry_row Second) (take number entries)) (state g old) (state g before)
    pub refused : IsRefusedInside INSERT_BOUNDED.now (shown_entry Second entry) (state g before) (state g new)

  -- the rows are not moved: one is not written, or once all were written those of `journal` are not deleted, or after that the number
  -- of the format is not set
  abbrev pub AreNotMoved : List Entry → Held S → Held S → Type 0
  AreNotMoved rows old new =
      IsEntryRefused rows old new
      ⊎ ((a : Held S) × Wrote (second_tree old.schema) (map (entry_row Second) rows) (state g old) (state g a)
      × (IsRefusedInside CLEAR_JOURNAL.now [] (state g a) (state g new) ⊎ ((b : Held S) × Clears (state g a) (state g b) × IsRefusedInside NUMBER_SECOND.now [] (state g b) (state g new))))

  -- the rows of `journal` are not read, or they are not moved with their bounds
  abbrev pub IsNotMovedTo : List ℕ → Held S → Held S → Type 0
  IsNotMovedTo bounds old new =
      IsNotRead old new
      ⊎ ((entries : List Entry) × HoldsJournal First ((state g old).now.trees 2) entries × (read : Held S) × IsUnchanged (state g old) (state g read) × AreNotMoved (with_bounds bounds entries) read new)

  -- so it is inside the transaction, or after all this the commit was refused
  abbrev pub IsNotMoved : Held S → List ℕ → Type 0
  IsNotMoved start bounds =
      (after : Held S) × (IsNotMovedTo bounds start after ⊎ ((before : Held S) × UpgradesInside (state g start) (state g before) bounds × IsNotCommitted (state g before) (state g after)))

  -- a transaction is open, or the tables are not those of a book, or the rows are not moved, or the probe after that was refused
  abbrev pub IsNotUpgraded : Held S → Held S → List ℕ → Type 0
  IsNotUpgraded old new bounds =
      IsTrue old.in_transaction
      ⊎ ((¬ IsBookSchema old.schema) ⊎ (IsNotMoved (record old { in_transaction = true }) bounds ⊎ ((between : Held S) × IsNotProbed (state g between) (state g new))))

  -- so it is of a keeper over a connection
  abbrev pub FailsToUpgrade : Option (Held S) → Option (Held S) → List ℕ → Type 0
  FailsToUpgrade old new bounds = FailsBy (λ from to. IsNotUpgraded from to bounds) old new
