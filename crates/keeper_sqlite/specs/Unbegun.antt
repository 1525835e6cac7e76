-- Why a book does not begin, but for want of memory.
use Rattle.std.specs.Prelude.{◌≡◌, ◌⊎◌, ℕ, ◌≤◌, ◌^◌, true, List, length, take, slice_get, Option, Some, IsTrue}
use Rattle.sqlite.specs.Store.{Ghosts}
use Rattle.sqlite.specs.Held.{Held, state}
use Rattle.keeper_sqlite.specs.declared.read.ItemTable.{ItemTable}
use Rattle.keeper_sqlite.specs.declared.read.ItemTable.TheVariants.{Meta, Mutations}
use Rattle.keeper_sqlite.specs.declared.statements.TheConstants.{INSERT_META, INSERT_MUTATION}
use Rattle.keeper_sqlite.specs.Tables.{IsBookSchema}
use Rattle.keeper_sqlite.specs.Rows.{item_rows, shown_item, tree_of}
use Rattle.keeper_sqlite.specs.Writing.{Wrote, BeginsRows}
use Rattle.keeper_sqlite.specs.Refusals.{FailsBy, IsRefusedInside, IsNotCommitted, IsNotProbed}

-- For proofs alone.

-- the statement that writes an item of the table
abbrev pub insert_of : ItemTable → List ℕ
insert_of Meta = INSERT_META.now
insert_of Mutations = INSERT_MUTATION.now

-- the INSERT of an item was refused, once those before it were written
pub record IsItemRefused {S : Type 0} (g : Ghosts S) (table : ItemTable) (items : List (List ℕ)) (old new : Held S) : Type 0 where
  pub number : ℕ
  pub item : List ℕ
  pub is : slice_get items number ≡ Some item
  pub before : Held S
  pub written : IsBookSchema old.schema → Wrote (tree_of table) (item_rows 0 (take number items)) (state g old) (state g before)
  pub refused : IsRefusedInside (insert_of table) (shown_item number item) (state g before) (state g new)

-- once both lists were written, the commit was refused
pub record IsCommitRefused {S : Type 0} (g : Ghosts S) (meta mutations : List (List ℕ)) (old new : Held S) : Type 0 where
  pub before : Held S
  pub written : IsBookSchema old.schema → BeginsRows (state g old).now (state g before).now meta mutations
  pub refused : IsNotCommitted (state g before) (state g new)

module _ {S : Type 0} (g : Ghosts S) where
  -- a list is not written: an item was refused, or it has more items than there are numbers
  abbrev pub IsNotWritten : ItemTable → List (List ℕ) → Held S → Held S → Type 0
  IsNotWritten table items old new = IsItemRefused g table items old new ⊎ (2 ^ 32 ≤ length items)

  -- inside the transaction one of the lists is not written, or it is not committed
  abbrev pub AreNotWritten : Held S → List (List ℕ) → List (List ℕ) → Type 0
  AreNotWritten start meta mutations =
      (after : Held S) × (IsNotWritten Meta meta start after
      ⊎ (((mid : Held S) × (IsBookSchema start.schema → Wrote 0 (item_rows 0 meta) (state g start) (state g mid)) × IsNotWritten Mutations mutations mid after)
      ⊎ IsCommitRefused g meta mutations start after))

  -- a transaction is open, or the lists are not written, or the probe after that was refused
  abbrev pub IsNotBegun : Held S → Held S → List (List ℕ) → List (List ℕ) → Type 0
  IsNotBegun old new meta mutations =
      IsTrue old.in_transaction ⊎ (AreNotWritten (record old { in_transaction = true }) meta mutations ⊎ ((between : Held S) × IsNotProbed (state g between) (state g new)))

  -- so it is of a keeper over a connection
  abbrev pub FailsToBegin : Option (Held S) → Option (Held S) → List (List ℕ) → List (List ℕ) → Type 0
  FailsToBegin old new meta mutations = FailsBy (λ from to. IsNotBegun from to meta mutations) old new
