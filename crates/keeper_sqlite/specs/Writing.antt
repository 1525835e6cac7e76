-- What the statements of a transaction write.
use Rattle.std.specs.Prelude.{◌≡◌, ◌≢◌, ◌⊎◌, ℕ, ◌<◌, List, ◌++◌, false, IsTrue, IsPermutation, Result, OnOk}
use Rattle.sqlite.specs.Order.{Row}
use Rattle.sqlite.specs.Tree.{Trees}
use Rattle.sqlite.specs.Effect.{Database, IsDatabase}
use Rattle.sqlite.specs.State.{State, HasCleanDisk, KeepsCommit, Survives}
use Rattle.sqlite.specs.Schema.{Schema}
use Rattle.keeper_sqlite.specs.declared.read.JournalTable.{JournalTable}
use Rattle.keeper_sqlite.specs.Tables.{IsBookSchema, second_tree}
use Rattle.keeper_sqlite.specs.Rows.{item_rows, rows_in}

-- For proofs alone.

-- the tree is that of a table of the book
abbrev pub IsOfBook : Schema → ℕ → Type 0
IsOfBook schema t = (t < 3) ⊎ (t ≡ second_tree schema)

-- the table has these rows more, and nothing else is changed
pub record Wrote (tree : ℕ) (rows : List Row) (old new : State) : Type 0 where
  pub schema : new.now.schema ≡ old.now.schema
  pub own : IsPermutation (rows ++ old.now.trees tree) (new.now.trees tree)
  pub others : (t : ℕ) → t ≢ tree → IsOfBook old.now.schema t → new.now.trees t ≡ old.now.trees t
  pub sound : IsDatabase old.now → IsDatabase new.now
  pub committed : new.committed ≡ old.committed
  pub mode : IsTrue new.in_transaction

-- Statements of a transaction write these rows into the table, or one is refused. None of them commits.
pub record WritesInside (tree : ℕ) (rows : List Row) (old new : State) {T E : Type 0} (result : Result T E) : Type 0 where
  pub wrote : HasCleanDisk new → IsTrue old.in_transaction → IsBookSchema old.now.schema → OnOk result (Wrote tree rows old new)
  pub kept : HasCleanDisk new → IsTrue old.in_transaction → KeepsCommit old new
  pub mode : HasCleanDisk new → IsTrue old.in_transaction → OnOk result (IsTrue new.in_transaction)
  pub crash : Survives old new (λ _. ⊥)

-- the rows of a book that begins
pub record BeginsRows (old new : Database) (meta mutations : List (List ℕ)) : Type 0 where
  pub schema : new.schema ≡ old.schema
  pub meta_rows : IsPermutation (item_rows 0 meta ++ old.trees 0) (new.trees 0)
  pub mutation_rows : IsPermutation (item_rows 0 mutations ++ old.trees 1) (new.trees 1)
  pub journal_rows : (table : JournalTable) → rows_in new.schema new.trees table ≡ rows_in old.schema old.trees table
  pub sound : IsDatabase old → IsDatabase new

-- the book has begun, and is committed
pub record HasBegunBook (old new : State) (meta mutations : List (List ℕ)) : Type 0 where
  pub rows : BeginsRows old.now new.now meta mutations
  pub is_open : IsTrue new.is_open
  pub autocommit : new.in_transaction ≡ false
  pub committed : new.committed ≡ new.now

-- what the transaction may commit
abbrev pub MayBegin : Database → List (List ℕ) → List (List ℕ) → Trees → Type 0
MayBegin old meta mutations trees = (after : Database) × BeginsRows old after meta mutations × (trees ≡ after.trees)
