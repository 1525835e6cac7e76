use Rattle.keeper_sqlite.proofs.Common.{◌≡◌, Bool, Some, IfOk, OnOk, sym, subst, Book, LeavesNothingNew, JournalTable, Holds, Leaves, LoadsTables}
use Rattle.keeper_sqlite.proofs.Loads.{answered, found_tables, same_found, found_allowed, nothing_new, on_err}
use Rattle.keeper_sqlite.proofs.load.load_through.Goals as goal

pub returns-in-Some-clause-answer : goal.returns-in-Some-clause-answer
returns-in-Some-clause-answer g c clean =
    let new = c.load_from.new.connection in
    answered g.S.Store c.in-Some.connected new clean c.load_from.result (λ trees is_open left. g.met.S.Store.settled new.store trees is_open left) (λ is_open. g.met.S.Store.stays new.store is_open) (c.load_from.ensures.loaded clean)

pub returns-in-Some-clause-tables : goal.returns-in-Some-clause-tables
returns-in-Some-clause-tables g c clean =
    let new = c.load_from.new.connection in
    subst (λ o. OnOk c.load_from.result (LoadsTables o (Some new))) (sym c.in-Some.is)
    (found_tables g.S.Store c.in-Some.connected new clean c.load_from.result (c.load_from.ensures.loaded clean))

pub returns-in-Some-clause-same : goal.returns-in-Some-clause-same
returns-in-Some-clause-same g c clean =
    subst (λ o. IfOk c.load_from.result (λ found. (settled : Bool) (table : JournalTable) (was : Book) → Holds g.S.Store o settled table was → found ≡ was)) (sym c.in-Some.is)
    (same_found g.S.Store c.in-Some.connected c.load_from.new.connection clean c.load_from.result (c.load_from.ensures.loaded clean))

pub returns-in-Some-clause-allowed : goal.returns-in-Some-clause-allowed
returns-in-Some-clause-allowed g c clean =
    let old = c.in-Some.connected in
    subst (λ o. IfOk c.load_from.result (λ found. Leaves g.S.Store o (Some found))) (sym c.in-Some.is)
    (found_allowed g.S.Store old c.load_from.new.connection clean c.load_from.result (λ is_open. g.met.S.Store.stays old.store is_open) (c.load_from.ensures.loaded clean))

pub returns-in-Some-clause-refused : goal.returns-in-Some-clause-refused
returns-in-Some-clause-refused g c clean =
    let old = c.in-Some.connected in
    let new = c.load_from.new.connection in
    on_err c.load_from.result (subst (λ o. LeavesNothingNew (Leaves g.S.Store o) (Leaves g.S.Store (Some new))) (sym c.in-Some.is)
    (nothing_new g.S.Store old new clean (λ is_open. g.met.S.Store.stays old.store is_open) c.load_from.ensures.crash))
