use Rattle.keeper_sqlite.proofs.Common.{rules, arith, inl, inr, ◌≡◌, ◌∙◌, sym, subst, IsErrOf, state, HasCleanDisk, Database, refusal_of, IsBookSchema}
use Rattle.keeper_sqlite.proofs.Begins.{keeps_on, survives_on}
use Rattle.keeper_sqlite.proofs.Upgrades.{moved_rows}
use Rattle.keeper_sqlite.proofs.upgrade.write_moved.Goals as goal

pub returns-clause-moved : goal.returns-clause-moved
returns-clause-moved g c clean inside tables =
    let start = state g.S.Store c.args.transaction.now.conn.now in
    let a = state g.S.Store c.write_entries.new.transaction.conn.now in
    let b = state g.S.Store c.clear_first.new.transaction.conn.now in
    let d = state g.S.Store c.renumber.new.transaction.conn.now in
    let in_b : HasCleanDisk b = omega (arith, c.renumber.ensures.crash.clean) in
    let in_a : HasCleanDisk a = omega (arith, c.clear_first.ensures.crash.clean, in_b) in
    let wrote = c.in_ok-write_entries.ensures.writes.wrote in_a inside tables in
    let clears = c.in_ok-clear_first.ensures.clears in_b wrote.mode (subst IsBookSchema (sym wrote.schema) tables) in
    let numbers = c.in_ok-renumber.ensures.numbers clean clears.mode (subst IsBookSchema (sym (clears.schema ∙ wrote.schema)) tables) in
    moved_rows start a b d c.args.rows.now tables wrote clears numbers

pub returns-clause-kept : goal.returns-clause-kept
returns-clause-kept g c clean inside tables =
    let start = state g.S.Store c.args.transaction.now.conn.now in
    let a = state g.S.Store c.write_entries.new.transaction.conn.now in
    let b = state g.S.Store c.clear_first.new.transaction.conn.now in
    let d = state g.S.Store c.renumber.new.transaction.conn.now in
    let in_b : HasCleanDisk b = omega (arith, c.renumber.ensures.crash.clean) in
    let in_a : HasCleanDisk a = omega (arith, c.clear_first.ensures.crash.clean, in_b) in
    let wrote = c.in_ok-write_entries.ensures.writes.wrote in_a inside tables in
    let clears = c.in_ok-clear_first.ensures.clears in_b wrote.mode (subst IsBookSchema (sym wrote.schema) tables) in
    keeps_on start a d (c.write_entries.ensures.writes.kept in_a inside) (keeps_on a b d (c.clear_first.ensures.kept in_b wrote.mode) (c.renumber.ensures.kept clean clears.mode))

pub returns-clause-crash : goal.returns-clause-crash
returns-clause-crash g c =
    let start = state g.S.Store c.args.transaction.now.conn.now in
    let a = state g.S.Store c.write_entries.new.transaction.conn.now in
    let b = state g.S.Store c.clear_first.new.transaction.conn.now in
    let d = state g.S.Store c.renumber.new.transaction.conn.now in
    survives_on start a d c.write_entries.ensures.writes.crash (survives_on a b d c.clear_first.ensures.crash c.renumber.ensures.crash)

pub returns-in_err-write_entries-clause-fault : goal.returns-in_err-write_entries-clause-fault
returns-in_err-write_entries-clause-fault g c clean inside tables fault =
    let why : IsErrOf c.write_entries.result Database = search rules in
    inl (c.write_entries.ensures.fault clean inside why)

pub returns-in_err-clear_first-clause-kept : goal.returns-in_err-clear_first-clause-kept
returns-in_err-clear_first-clause-kept g c clean inside tables =
    let start = state g.S.Store c.args.transaction.now.conn.now in
    let a = state g.S.Store c.write_entries.new.transaction.conn.now in
    let b = state g.S.Store c.clear_first.new.transaction.conn.now in
    let in_a : HasCleanDisk a = omega (arith, c.clear_first.ensures.crash.clean) in
    keeps_on start a b (c.write_entries.ensures.writes.kept in_a inside) (c.clear_first.ensures.kept clean (c.in_ok-write_entries.ensures.writes.mode in_a inside))

pub returns-in_err-clear_first-clause-crash : goal.returns-in_err-clear_first-clause-crash
returns-in_err-clear_first-clause-crash g c =
    survives_on (state g.S.Store c.args.transaction.now.conn.now) (state g.S.Store c.write_entries.new.transaction.conn.now) (state g.S.Store c.clear_first.new.transaction.conn.now) c.write_entries.ensures.writes.crash c.clear_first.ensures.crash

pub returns-in_err-clear_first-clause-fault : goal.returns-in_err-clear_first-clause-fault
returns-in_err-clear_first-clause-fault g c clean inside tables fault =
    let a = c.write_entries.new.transaction.conn.now in
    let in_a : HasCleanDisk (state g.S.Store a) = omega (arith, c.clear_first.ensures.crash.clean) in
    let wrote = c.in_ok-write_entries.ensures.writes.wrote in_a inside tables in
    let error = c.in_err-clear_first.field-0.0 in
    let why : refusal_of error ≡ Database = search rules in
    inr (a, wrote, inl (error, c.in_err-clear_first.ensures.told clean wrote.mode, why))

pub returns-in_err-renumber-clause-kept : goal.returns-in_err-renumber-clause-kept
returns-in_err-renumber-clause-kept g c clean inside tables =
    let start = state g.S.Store c.args.transaction.now.conn.now in
    let a = state g.S.Store c.write_entries.new.transaction.conn.now in
    let b = state g.S.Store c.clear_first.new.transaction.conn.now in
    let d = state g.S.Store c.renumber.new.transaction.conn.now in
    let in_b : HasCleanDisk b = omega (arith, c.renumber.ensures.crash.clean) in
    let in_a : HasCleanDisk a = omega (arith, c.clear_first.ensures.crash.clean, in_b) in
    let wrote = c.in_ok-write_entries.ensures.writes.wrote in_a inside tables in
    let clears = c.in_ok-clear_first.ensures.clears in_b wrote.mode (subst IsBookSchema (sym wrote.schema) tables) in
    keeps_on start a d (c.write_entries.ensures.writes.kept in_a inside) (keeps_on a b d (c.clear_first.ensures.kept in_b wrote.mode) (c.renumber.ensures.kept clean clears.mode))

pub returns-in_err-renumber-clause-crash : goal.returns-in_err-renumber-clause-crash
returns-in_err-renumber-clause-crash g c =
    let start = state g.S.Store c.args.transaction.now.conn.now in
    let a = state g.S.Store c.write_entries.new.transaction.conn.now in
    let b = state g.S.Store c.clear_first.new.transaction.conn.now in
    let d = state g.S.Store c.renumber.new.transaction.conn.now in
    survives_on start a d c.write_entries.ensures.writes.crash (survives_on a b d c.clear_first.ensures.crash c.renumber.ensures.crash)

pub returns-in_err-renumber-clause-fault : goal.returns-in_err-renumber-clause-fault
returns-in_err-renumber-clause-fault g c clean inside tables fault =
    let a = c.write_entries.new.transaction.conn.now in
    let b = c.clear_first.new.transaction.conn.now in
    let in_b : HasCleanDisk (state g.S.Store b) = omega (arith, c.renumber.ensures.crash.clean) in
    let in_a : HasCleanDisk (state g.S.Store a) = omega (arith, c.clear_first.ensures.crash.clean, in_b) in
    let wrote = c.in_ok-write_entries.ensures.writes.wrote in_a inside tables in
    let clears = c.in_ok-clear_first.ensures.clears in_b wrote.mode (subst IsBookSchema (sym wrote.schema) tables) in
    let error = c.in_err-renumber.field-0.0 in
    let why : refusal_of error ≡ Database = search rules in
    inr (a, wrote, inr (b, clears, (error, c.in_err-renumber.ensures.told clean clears.mode, why)))
