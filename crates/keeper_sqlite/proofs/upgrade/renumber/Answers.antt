use Rattle.keeper_sqlite.proofs.Common.{[], state, NUMBER_SECOND}
use Rattle.keeper_sqlite.proofs.Refused.{err_inside}
use Rattle.keeper_sqlite.proofs.Renumbers.{numbers}
use Rattle.keeper_sqlite.proofs.upgrade.renumber.Goals as goal

pub returns-clause-numbers : goal.returns-clause-numbers
returns-clause-numbers g c clean inside schema =
    numbers (state g.S.Store c.args.transaction.now.conn.now) (state g.S.Store c.execute.new.self.conn.now) c.execute.result (c.execute.ensures.runs clean inside) schema

pub returns-clause-told : goal.returns-clause-told
returns-clause-told g c clean inside =
    err_inside (state g.S.Store c.args.transaction.now.conn.now) (state g.S.Store c.execute.new.self.conn.now) NUMBER_SECOND.now [] c.execute.result (c.execute.ensures.runs clean inside)
