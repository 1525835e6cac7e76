use Rattle.keeper_sqlite.proofs.Common.{rules, arith, inl, inr, ◌≡◌, sym, subst, IsErrOf, IsTrue, state, HasCleanDisk, Data, with_bounds, Database, IsBookSchema, AreNotMoved, HasMoved}
use Rattle.keeper_sqlite.proofs.Begins.{keeps_on, survives_on}
use Rattle.keeper_sqlite.proofs.Upgrades.{moved_from, ok_weaker}
use Rattle.keeper_sqlite.proofs.upgrade.move_rows.Goals as goal

pub returns-clause-moved : goal.returns-clause-moved
returns-clause-moved g c clean inside tables live =
    let start = state g.S.Store c.args.transaction.now.conn.now in
    let read = state g.S.Store c.read_first.new.transaction.conn.now in
    let end = state g.S.Store c.write_moved.new.transaction.conn.now in
    let early : HasCleanDisk read = omega (arith, c.write_moved.ensures.crash.clean) in
    let same = c.in_ok-entries.ensures.same early tables in
    let here : IsBookSchema read.now.schema = subst (λ (d : Data). IsBookSchema d.schema) (sym same.0.now_is) tables in
    let mode : IsTrue read.in_transaction = subst IsTrue (sym same.0.mode) inside in
    let entries = c.in_ok-entries.entries.items in
    let was = c.in_ok-entries.ensures.found early tables live in
    let rows : c.as_slice-3.result.now ≡ with_bounds c.args.bounds.now entries = search rules in
    ok_weaker c.write_moved.result (λ (moved : HasMoved read end (with_bounds c.args.bounds.now entries)). moved_from start read end c.args.bounds.now entries same was moved)
    (rw rows at (c.write_moved.ensures.moved clean mode here))

pub returns-clause-kept : goal.returns-clause-kept
returns-clause-kept g c clean inside tables =
    let start = state g.S.Store c.args.transaction.now.conn.now in
    let read = state g.S.Store c.read_first.new.transaction.conn.now in
    let end = state g.S.Store c.write_moved.new.transaction.conn.now in
    let early : HasCleanDisk read = omega (arith, c.write_moved.ensures.crash.clean) in
    let same = c.in_ok-entries.ensures.same early tables in
    let here : IsBookSchema read.now.schema = subst (λ (d : Data). IsBookSchema d.schema) (sym same.0.now_is) tables in
    let mode : IsTrue read.in_transaction = subst IsTrue (sym same.0.mode) inside in
    keeps_on start read end (c.read_first.ensures.kept early tables) (c.write_moved.ensures.kept clean mode here)

pub returns-clause-crash : goal.returns-clause-crash
returns-clause-crash g c =
    survives_on (state g.S.Store c.args.transaction.now.conn.now) (state g.S.Store c.read_first.new.transaction.conn.now) (state g.S.Store c.write_moved.new.transaction.conn.now) c.read_first.ensures.crash c.write_moved.ensures.crash

pub returns-clause-fault : goal.returns-clause-fault
returns-clause-fault g c clean inside tables live fault =
    let read = c.read_first.new.transaction.conn.now in
    let end = c.write_moved.new.transaction.conn.now in
    let early : HasCleanDisk (state g.S.Store read) = omega (arith, c.write_moved.ensures.crash.clean) in
    let same = c.in_ok-entries.ensures.same early tables in
    let here : IsBookSchema (state g.S.Store read).now.schema = subst (λ (d : Data). IsBookSchema d.schema) (sym same.0.now_is) tables in
    let mode : IsTrue (state g.S.Store read).in_transaction = subst IsTrue (sym same.0.mode) inside in
    let entries = c.in_ok-entries.entries.items in
    let rows : c.as_slice-3.result.now ≡ with_bounds c.args.bounds.now entries = search rules in
    let unmoved : AreNotMoved g.S.Store (with_bounds c.args.bounds.now entries) read end = rw rows at (c.write_moved.ensures.fault clean mode here fault) in
    inr (entries, c.in_ok-entries.ensures.found early tables live, read, same, unmoved)

pub returns-in_err-entries-clause-fault : goal.returns-in_err-entries-clause-fault
returns-in_err-entries-clause-fault g c clean inside tables live fault =
    let why : IsErrOf c.read_first.result Database = search rules in
    inl (c.read_first.ensures.fault clean inside why)
