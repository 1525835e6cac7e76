use Rattle.keeper_sqlite.proofs.Common.{true, Some, OnOk, OnErr, sym, subst, Book, IsBlank, begun, Keeps, LeavesEither, JournalTable, table_of, Holds, Leaves}
use Rattle.keeper_sqlite.proofs.Keeping.{begun_told, begun_either}
use Rattle.keeper_sqlite.proofs.begin.begin_through.Goals as goal

pub returns-in-Some-clause-done : goal.returns-in-Some-clause-done
returns-in-Some-clause-done g c clean =
    let new = c.begin_book.new.connection in
    let book = begun c.args.meta.now c.args.mutations.now in
    subst (λ o. OnOk c.begin_book.result ((table : JournalTable) (was : Book) → Holds g.S.Store o true table was → IsBlank was → Keeps (Holds g.S.Store (Some new) true (table_of book)) (Leaves g.S.Store (Some new)) book)) (sym c.in-Some.is)
    (begun_told g.S.Store c.in-Some.connected new c.args.meta.now c.args.mutations.now clean c.begin_book.result (λ trees is_open left. g.met.S.Store.settled new.store trees is_open left) (λ is_open. g.met.S.Store.stays new.store is_open) c.begin_book.ensures.begun)

pub returns-in-Some-clause-either : goal.returns-in-Some-clause-either
returns-in-Some-clause-either g c clean =
    let new = c.begin_book.new.connection in
    let old = c.in-Some.connected in
    let book = begun c.args.meta.now c.args.mutations.now in
    subst (λ o. OnErr c.begin_book.result ((table : JournalTable) (was : Book) → Holds g.S.Store o true table was → IsBlank was → LeavesEither (Leaves g.S.Store (Some new)) was book)) (sym c.in-Some.is)
    (begun_either g.S.Store old new c.args.meta.now c.args.mutations.now clean c.begin_book.result (λ trees is_open left. g.met.S.Store.settled old.store trees is_open left) c.begin_book.ensures.crash)
