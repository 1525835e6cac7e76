-- What a statement changes of the lists of rows.
use Rattle.std.specs.Prelude.{◌≡◌, false, IsTrue, ◌∷◌, if◌then◌else◌, IsPermutation}
use Rattle.sqlite.specs.Tree.{Trees}
use Rattle.sqlite.specs.Effect.{Database, IsDatabase}
use Rattle.sqlite.specs.State.{State, Shows}
use Rattle.mcy_keeper.specs.declared.book.Entry.{Entry}
use Rattle.keeper_sqlite.specs.declared.read.JournalTable.{JournalTable}
use Rattle.keeper_sqlite.specs.Rows.{entry_row, other_of, rows_in}

-- For proofs alone.

-- this journal has one row more
pub record AddsEntry (table : JournalTable) (old new : Database) (entry : Entry) : Type 0 where
  pub schema : new.schema ≡ old.schema
  pub meta : new.trees 0 ≡ old.trees 0
  pub mutations : new.trees 1 ≡ old.trees 1
  pub journal : IsPermutation (entry_row table entry ∷ rows_in old.schema old.trees table) (rows_in new.schema new.trees table)
  pub other : rows_in new.schema new.trees (other_of table) ≡ rows_in old.schema old.trees (other_of table)

-- the statement has added the row, and outside a transaction committed it
pub record HasAdded (table : JournalTable) (old new : State) (entry : Entry) : Type 0 where
  pub sound : IsDatabase new.now
  pub rows : AddsEntry table old.now new.now entry
  pub shown : Shows old new new.now (if old.in_transaction then old.committed else new.now) old.in_transaction

-- what a crash leaves once the statement is committed
abbrev pub IsAdded : JournalTable → Database → Entry → Trees → Type 0
IsAdded table old entry trees = (after : Database) × IsDatabase after × AddsEntry table old after entry × (trees ≡ after.trees)

-- the statement was refused, and the connection shows and keeps what it kept
pub record IsKept (old new : State) : Type 0 where
  pub was_open : IsTrue old.is_open
  pub is_open : IsTrue new.is_open
  pub autocommit : new.in_transaction ≡ false
  pub committed : new.committed ≡ old.committed
  pub now : old.committed ≡ old.now → new.now ≡ old.now

-- so it is where the connection is still open
abbrev pub IsKeptIfOpen : State → State → Type 0
IsKeptIfOpen old new = old.in_transaction ≡ false → IsTrue new.is_open → IsKept old new
