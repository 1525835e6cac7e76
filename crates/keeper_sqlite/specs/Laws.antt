-- A keeper over a connection tells one book at most, and only where it tells; a crash leaves something.
use Rattle.std.specs.Prelude.{◌≡◌, Bool, Option, Some, None}
use Rattle.std.proofs.Math.Logic.{∥∥₁_elim}
use Rattle.sqlite.specs.Tree.{Trees}
use Rattle.sqlite.specs.Store.{Ghosts}
use Rattle.sqlite_trees.specs.View.{IsClean}
use Rattle.sqlite.specs.Held.{Held, state}
use Rattle.mcy_keeper.specs.declared.book.Book.{Book}
use Rattle.mcy_keeper.specs.Books.{LeavesSome}
use Rattle.keeper_sqlite.specs.declared.read.JournalTable.{JournalTable}
use Rattle.keeper_sqlite.specs.Stands.{Tells, Holds, Leaves}
use Rattle.keeper_sqlite.specs.Unique.{book_one}

pub holds_one : {S : Type 0} (g : Ghosts S) (c : Option (Held S)) (settled : Bool) (table : JournalTable) (a b : Book) → Holds g c settled table a → Holds g c settled table b → a ≡ b
holds_one g None settled table a b p q = absurd p
holds_one g (Some c) settled table a b p q = book_one (state g c).now.schema (state g c).now.trees a b p.2.shows.rows q.2.shows.rows

pub holds_tells : {S : Type 0} (g : Ghosts S) (c : Option (Held S)) (settled : Bool) (table : JournalTable) (b : Book) → Holds g c settled table b → Tells g c
holds_tells g None settled table b p = absurd p
holds_tells g (Some c) settled table b p = p.1

-- from the store's law that a crash leaves some trees
pub leaves_some : {S : Type 0} (g : Ghosts S) → ((s : S) → IsClean (g.view s) → ∥ ((trees : Trees) × g.recovers s trees) ∥₁) → (c : Option (Held S)) → Tells g c → LeavesSome (Leaves g c)
leaves_some g survives None tells none = tells
leaves_some g survives (Some c) clean none =
    ∥∥₁_elim (survives c.store clean) (λ a b. absurd a) (λ left. none None (left.0, left.1, λ book stands. none (Some book) (left.0, left.1, stands)))
