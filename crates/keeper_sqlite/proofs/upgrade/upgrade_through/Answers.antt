use Rattle.keeper_sqlite.proofs.Common.{◌≡◌, length, true, Some, OnOk, OnErr, sym, subst, Book, IsFirst, upgraded, Keeps, LeavesEither, JournalTable, Second, Holds, Leaves}
use Rattle.keeper_sqlite.proofs.Keeping.{upgraded_told, upgraded_either}
use Rattle.keeper_sqlite.proofs.upgrade.upgrade_through.Goals as goal

pub returns-in-Some-clause-done : goal.returns-in-Some-clause-done
returns-in-Some-clause-done g c clean =
    let new = c.upgrade_book.new.connection in
    let bounds = c.args.bounds.now in
    subst (λ o. OnOk c.upgrade_book.result ((table : JournalTable) (was : Book) → Holds g.S.Store o true table was → IsFirst was → length bounds ≡ length was.journal → Keeps (Holds g.S.Store (Some new) true Second) (Leaves g.S.Store (Some new)) (upgraded bounds was))) (sym c.in-Some.is)
    (upgraded_told g.S.Store c.in-Some.connected new bounds clean c.upgrade_book.result (λ trees is_open left. g.met.S.Store.settled new.store trees is_open left) (λ is_open. g.met.S.Store.stays new.store is_open) c.upgrade_book.ensures.upgraded)

pub returns-in-Some-clause-either : goal.returns-in-Some-clause-either
returns-in-Some-clause-either g c clean =
    let new = c.upgrade_book.new.connection in
    let old = c.in-Some.connected in
    let bounds = c.args.bounds.now in
    subst (λ o. OnErr c.upgrade_book.result ((table : JournalTable) (was : Book) → Holds g.S.Store o true table was → IsFirst was → LeavesEither (Leaves g.S.Store (Some new)) was (upgraded bounds was))) (sym c.in-Some.is)
    (upgraded_either g.S.Store old new bounds clean c.upgrade_book.result (λ trees is_open left. g.met.S.Store.settled old.store trees is_open left) c.upgrade_book.ensures.crash)
