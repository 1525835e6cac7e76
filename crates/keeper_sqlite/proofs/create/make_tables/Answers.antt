use Rattle.keeper_sqlite.proofs.Common.{rules, arith, inl, true, refl, state, HasCleanDisk, AreNotMade}
use Rattle.keeper_sqlite.proofs.Refused.{making_refused, on_same}
use Rattle.keeper_sqlite.proofs.create.make_tables.Goals as goal

pub returns-in_err-create_tables-clause-told : goal.returns-in_err-create_tables-clause-told
returns-in_err-create_tables-clause-told g c clean schema =
    let after = c.create_tables.new.transaction.conn.now in
    let start = record c.args.connection.now { in_transaction = true } in
    let late : HasCleanDisk (state g.S.Store c.drop-transaction.new.self.0) = search rules in
    let early : HasCleanDisk (state g.S.Store after) = omega (arith, c.drop-transaction.ensures.survives.clean) in
    let unmade : AreNotMade g.S.Store start c.in_err-create_tables.field-0.0 = (after, inl ((rw c.transaction-transaction.ensures.begun at c.in_err-create_tables.ensures.told) early refl schema)) in
    on_same c.from_residual.result c.in_err-create_tables.field-0.0 (AreNotMade g.S.Store start) c.from_residual.ensures.1 unmade

pub returns-clause-told : goal.returns-clause-told
returns-clause-told g c clean schema =
    let before = c.create_tables.new.transaction.conn.now in
    let end = c.commit.new.self.0 in
    let late : HasCleanDisk (state g.S.Store end) = search rules in
    let early : HasCleanDisk (state g.S.Store before) = omega (arith, c.commit.ensures.survives.clean) in
    let made = (rw c.transaction-transaction.ensures.begun at c.in_ok-create_tables.ensures.made) early refl schema in
    making_refused g.S.Store (record c.args.connection.now { in_transaction = true }) before end c.commit.result made (c.commit.ensures.err late)
