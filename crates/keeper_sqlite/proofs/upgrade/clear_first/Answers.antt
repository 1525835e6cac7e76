use Rattle.keeper_sqlite.proofs.Common.{[], state, CLEAR_JOURNAL}
use Rattle.keeper_sqlite.proofs.Refused.{err_inside}
use Rattle.keeper_sqlite.proofs.Upgrades.{clears}
use Rattle.keeper_sqlite.proofs.upgrade.clear_first.Goals as goal

pub returns-clause-clears : goal.returns-clause-clears
returns-clause-clears g c clean inside schema =
    clears (state g.S.Store c.args.transaction.now.conn.now) (state g.S.Store c.execute.new.self.conn.now) c.execute.result (c.execute.ensures.runs clean inside) schema

pub returns-clause-told : goal.returns-clause-told
returns-clause-told g c clean inside =
    err_inside (state g.S.Store c.args.transaction.now.conn.now) (state g.S.Store c.execute.new.self.conn.now) CLEAR_JOURNAL.now [] c.execute.result (c.execute.ensures.runs clean inside)
