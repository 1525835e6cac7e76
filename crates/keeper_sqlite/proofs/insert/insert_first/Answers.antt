use Rattle.keeper_sqlite.proofs.Common.{subst, state, CommitsBy, Executes, Survives, survives_weaker, First, shown_entry}
use Rattle.keeper_sqlite.proofs.Texts.{insert_entry_text}
use Rattle.keeper_sqlite.proofs.Inserts.{added, commits}
use Rattle.keeper_sqlite.proofs.Refused.{err_kept, err_told}
use Rattle.keeper_sqlite.proofs.insert.insert_first.Goals as goal

pub returns-clause-added : goal.returns-clause-added
returns-clause-added g c clean schema =
    let ran : Executes insert_entry_text (shown_entry First c.args.entry.now) (state g.S.Store c.args.connection.now) (state g.S.Store c.execute.new.self) c.execute.result =
    subst (λ row. Executes insert_entry_text row (state g.S.Store c.args.connection.now) (state g.S.Store c.execute.new.self) c.execute.result) c.first_values.ensures (c.execute.ensures.runs clean) in
    added First (state g.S.Store c.args.connection.now) (state g.S.Store c.execute.new.self) c.args.entry.now c.execute.result schema ran

pub returns-clause-kept : goal.returns-clause-kept
returns-clause-kept g c clean = err_kept (state g.S.Store c.args.connection.now) (state g.S.Store c.execute.new.self) _ _ c.execute.result (c.execute.ensures.runs clean)

pub returns-clause-told : goal.returns-clause-told
returns-clause-told g c clean =
    let ran : Executes insert_entry_text (shown_entry First c.args.entry.now) (state g.S.Store c.args.connection.now) (state g.S.Store c.execute.new.self) c.execute.result =
    subst (λ row. Executes insert_entry_text row (state g.S.Store c.args.connection.now) (state g.S.Store c.execute.new.self) c.execute.result) c.first_values.ensures (c.execute.ensures.runs clean) in
    err_told (state g.S.Store c.args.connection.now) (state g.S.Store c.execute.new.self) insert_entry_text (shown_entry First c.args.entry.now) c.execute.result ran

pub returns-clause-crash : goal.returns-clause-crash
returns-clause-crash g c =
    survives_weaker (state g.S.Store c.args.connection.now) (state g.S.Store c.execute.new.self) _ _
    (λ _ trees may schema. commits First (state g.S.Store c.args.connection.now) c.args.entry.now trees schema may)
    (subst (λ row. Survives (state g.S.Store c.args.connection.now) (state g.S.Store c.execute.new.self) (CommitsBy insert_entry_text row (state g.S.Store c.args.connection.now))) c.first_values.ensures c.execute.ensures.survives)
