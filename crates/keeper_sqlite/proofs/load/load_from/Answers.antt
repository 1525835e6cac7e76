use Rattle.keeper_sqlite.proofs.Common.{rules, ◌≡◌, inl, inr, false, not, IsTrue, IsErrOf, ap, ◌∙◌, arith, Database, state, HasCleanDisk, survives_then, MayMake}
use Rattle.keeper_sqlite.proofs.Loads.{loaded}
use Rattle.keeper_sqlite.proofs.load.load_from.Goals as goal

pub returns-clause-loaded : goal.returns-clause-loaded
returns-clause-loaded g c clean =
    let old = state g.S.Store c.args.connection.now in
    let mid = state g.S.Store c.ensure_tables.new.connection in
    let new = state g.S.Store c.read_book.new.connection in
    let early : HasCleanDisk mid = omega (arith, c.read_book.ensures.crash.clean) in
    let same = c.in_ok-book.ensures.same clean in
    let ready = c.in_ok-ensure_tables.ensures.ready early in
    let auto : new.in_transaction ≡ false = same.0.mode ∙ ready.autocommit in
    let yes : IsTrue c.is_autocommit-settled.result = c.is_autocommit-settled.ensures.value ∙ ap not auto in
    loaded old mid new c.in_ok-book.book ready (c.in_ok-book.ensures.found clean) same (c.schema-live.ensures.live same.0.is_open).0 auto (c.is_autocommit-settled.ensures.settled yes same.0.is_open)

pub returns-in_err-ensure_tables-clause-fault : goal.returns-in_err-ensure_tables-clause-fault
returns-in_err-ensure_tables-clause-fault g c clean fault =
    let why : IsErrOf c.ensure_tables.result Database = search rules in
    inl (c.ensure_tables.ensures.fault clean why)

pub returns-in_err-book-clause-fault : goal.returns-in_err-book-clause-fault
returns-in_err-book-clause-fault g c clean fault =
    let ready = c.ensure_tables.new.connection in
    let early : HasCleanDisk (state g.S.Store ready) = omega (arith, c.read_book.ensures.crash.clean) in
    let why : IsErrOf c.read_book.result Database = search rules in
    inr (ready, c.in_ok-ensure_tables.ensures.ready early, c.read_book.ensures.fault clean why)

pub returns-clause-crash : goal.returns-clause-crash
returns-clause-crash g c =
    let old = state g.S.Store c.args.connection.now in
    let mid = state g.S.Store c.ensure_tables.new.connection in
    survives_then old mid (state g.S.Store c.read_book.new.connection) (MayMake old) (λ _. ⊥) (MayMake old) (λ _ trees may. may) (λ _ trees none. absurd none) c.ensure_tables.ensures.crash c.read_book.ensures.crash
