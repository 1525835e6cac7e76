-- What the opening of a database may find.
use Rattle.std.specs.Prelude.{◌≡◌, ◌⊎◌, ℕ, Bool, false, IsTrue, [], Option, Some, None}
use Rattle.sqlite.specs.Schema.{Schema}
use Rattle.sqlite.specs.Tree.{Trees}
use Rattle.sqlite.specs.Store.{Ghosts}
use Rattle.sqlite.specs.Held.{Held, state}
use Rattle.sqlite.specs.State.{State, HasCleanDisk}
use Rattle.mcy_keeper.specs.declared.book.Book.{Book}
use Rattle.keeper_sqlite.specs.Stands.{StandsAs}

-- some trees that may be found stand for this book, or for none; where no trees may be found, there is no book
abbrev pub MayBeFound : (Trees → Type 0) → Option Book → Type 0
MayBeFound found left = ((trees : Trees) × found trees × StandsAs trees left) ⊎ ((left ≡ None) × ((trees : Trees) → ¬ found trees))

-- where nobody else writes and the disk returns what was written, the connection is open and shows what it may find
abbrev pub Finds : (Trees → Type 0) → State → Type 0
Finds found s = HasCleanDisk s → IsTrue s.is_open × found s.committed.trees

-- For proofs alone.

-- a keeper over this connection has loaded nothing, and counted no fault; where there is a connection, it shows what may be found
pub record IsFresh {S : Type 0} (g : Ghosts S) (found : Trees → Type 0) (connection : Option (Held S)) (settled : Bool) (faults : ℕ) : Type 0 where
  pub finds : (c : Held S) → connection ≡ Some c → Finds found (state g c)
  pub unsettled : settled ≡ false
  pub uncounted : faults ≡ 0

-- a database without tables and views
abbrev pub HasNoTables : Schema → Type 0
HasNoTables schema = (schema.tables ≡ []) × (schema.views ≡ [])
