use Rattle.keeper_sqlite.proofs.Common.{true, Some, OnOk, OnErr, sym, subst, Book, IsNext, with_entry, Keeps, LeavesEither, FitsTable, Holds, Leaves}
use Rattle.keeper_sqlite.proofs.Keeping.{appended, either_left}
use Rattle.keeper_sqlite.proofs.append.append_through.Goals as goal

pub returns-in-Some-clause-done : goal.returns-in-Some-clause-done
returns-in-Some-clause-done g c clean =
    let new = c.add_entry.new.connection in
    let e = c.args.entry.now in
    subst (λ o. OnOk c.add_entry.result ((was : Book) → Holds g.S.Store o true c.args.table was → IsNext was e → FitsTable c.args.table e → Keeps (Holds g.S.Store (Some new) true c.args.table) (Leaves g.S.Store (Some new)) (with_entry was e))) (sym c.in-Some.is)
    (appended g.S.Store c.in-Some.connected new c.args.table e clean c.add_entry.result (λ trees is_open left. g.met.S.Store.settled new.store trees is_open left) (λ is_open. g.met.S.Store.stays new.store is_open) c.add_entry.ensures.added)

pub returns-in-Some-clause-either : goal.returns-in-Some-clause-either
returns-in-Some-clause-either g c clean =
    let new = c.add_entry.new.connection in
    let old = c.in-Some.connected in
    let e = c.args.entry.now in
    subst (λ o. OnErr c.add_entry.result ((was : Book) → Holds g.S.Store o true c.args.table was → IsNext was e → FitsTable c.args.table e → LeavesEither (Leaves g.S.Store (Some new)) was (with_entry was e))) (sym c.in-Some.is)
    (either_left g.S.Store old new c.args.table e clean c.add_entry.result (λ trees is_open left. g.met.S.Store.settled old.store trees is_open left) c.add_entry.ensures.crash)
