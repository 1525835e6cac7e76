-- What a refusal of SQLite is to the keeper: want of memory, or any other cause.
use Rattle.std.specs.Prelude.{◌≡◌, ◌⊎◌, ℕ, List, Option, Some, None, Err, IsTrue, ⊤}
use Rattle.sqlite.specs.declared.error.Error.{Error}
use Rattle.sqlite.specs.declared.error.Error.TheVariants.{SqliteFailure}
use Rattle.sqlite.specs.declared.error.ErrorCode.TheVariants.{OutOfMemory}
use Rattle.sqlite.specs.Order.{Row}
use Rattle.sqlite.specs.Store.{Ghosts}
use Rattle.sqlite.specs.Held.{Held, state}
use Rattle.sqlite.specs.State.{State, Executes, ExecutesInside, IsNotRun}
use Rattle.sqlite.specs.Steps.{FailsToCommit}
use Rattle.mcy_keeper.specs.declared.book.Entry.{Entry}
use Rattle.keeper_sqlite.specs.declared.refusal.Refusal.{Refusal}
use Rattle.keeper_sqlite.specs.declared.refusal.Refusal.TheVariants.{Memory, Database}
use Rattle.keeper_sqlite.specs.declared.statements.TheConstants.{INSERT_ENTRY, INSERT_BOUNDED, PROBE}
use Rattle.keeper_sqlite.specs.declared.read.JournalTable.{JournalTable}
use Rattle.keeper_sqlite.specs.declared.read.JournalTable.TheVariants.{First, Second}
use Rattle.keeper_sqlite.specs.Rows.{shown_entry}

-- For proofs alone.

abbrev pub refusal_of : Error → Refusal
refusal_of (SqliteFailure OutOfMemory) = Memory
refusal_of _ = Database

-- the statement was refused so
abbrev pub IsRefusedWith : List ℕ → Row → State → State → Error → Type 0
IsRefusedWith sql params old new error = Executes sql params old new (Err error)

-- the statement was refused, and not for want of memory
abbrev pub IsRefused : List ℕ → Row → State → State → Type 0
IsRefused sql params old new = (error : Error) × IsRefusedWith sql params old new error × (refusal_of error ≡ Database)

-- the same of a statement inside a transaction
abbrev pub IsRefusedInsideWith : List ℕ → Row → State → State → Error → Type 0
IsRefusedInsideWith sql params old new error = ExecutesInside 0 sql params old new (Err error)

abbrev pub IsRefusedInside : List ℕ → Row → State → State → Type 0
IsRefusedInside sql params old new = (error : Error) × IsRefusedInsideWith sql params old new error × (refusal_of error ≡ Database)

-- the commit was refused, and not for want of memory
abbrev pub IsNotCommitted : State → State → Type 0
IsNotCommitted old new = (error : Error) × FailsToCommit old new error × (refusal_of error ≡ Database)

-- the probe was refused
abbrev pub IsNotProbed : State → State → Type 0
IsNotProbed old new = (error : Error) × ((params : Row) → IsNotRun old new PROBE.now params error)

-- a call over a connection that may be missing has failed: there is none, or for this cause
abbrev pub FailsBy : {S : Type 0} → (Held S → Held S → Type 0) → Option (Held S) → Option (Held S) → Type 0
FailsBy Cause None new = ⊤
FailsBy Cause (Some old) None = ⊥
FailsBy Cause (Some old) (Some new) = Cause old new

-- Why an entry is not added, but for want of memory: there is no connection, or a transaction is open, or the INSERT was
-- refused, or after it the probe.
abbrev pub insert_into : JournalTable → List ℕ
insert_into First = INSERT_ENTRY.now
insert_into Second = INSERT_BOUNDED.now

module _ {S : Type 0} (g : Ghosts S) where
  abbrev pub IsNotAdded : JournalTable → Held S → Held S → Entry → Type 0
  IsNotAdded table old new entry =
      IsTrue (state g old).in_transaction ⊎ ((between : Held S) × (IsRefused (insert_into table) (shown_entry table entry) (state g old) (state g between) ⊎ IsNotProbed (state g between) (state g new)))

  abbrev pub IsNotAppended : JournalTable → Option (Held S) → Option (Held S) → Entry → Type 0
  IsNotAppended table old new entry = FailsBy (λ from to. IsNotAdded table from to entry) old new
