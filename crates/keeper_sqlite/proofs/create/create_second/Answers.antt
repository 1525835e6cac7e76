use Rattle.keeper_sqlite.proofs.Common.{[], state, CREATE_SECOND}
use Rattle.keeper_sqlite.proofs.Refused.{err_inside}
use Rattle.keeper_sqlite.proofs.Seconds.{creates_second}
use Rattle.keeper_sqlite.proofs.create.create_second.Goals as goal

pub returns-clause-made : goal.returns-clause-made
returns-clause-made g c clean inside schema =
    creates_second (state g.S.Store c.args.transaction.now.conn.now) (state g.S.Store c.execute.new.self.conn.now) c.execute.result schema (c.execute.ensures.runs clean inside)

pub returns-clause-told : goal.returns-clause-told
returns-clause-told g c clean inside =
    err_inside (state g.S.Store c.args.transaction.now.conn.now) (state g.S.Store c.execute.new.self.conn.now) CREATE_SECOND.now [] c.execute.result (c.execute.ensures.runs clean inside)
