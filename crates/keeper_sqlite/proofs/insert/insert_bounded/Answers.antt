use Rattle.keeper_sqlite.proofs.Common.{rules, subst, state, ExecutesInside, Second, shown_entry}
use Rattle.keeper_sqlite.proofs.Texts.{insert_bounded_text}
use Rattle.keeper_sqlite.proofs.Inserts.{wrote_bounded}
use Rattle.keeper_sqlite.proofs.Refused.{err_inside}
use Rattle.keeper_sqlite.proofs.insert.insert_bounded.Goals as goal

pub returns-clause-writes : goal.returns-clause-writes
returns-clause-writes g c =
    let old = state g.S.Store c.args.transaction.now.conn.now in
    let new = state g.S.Store c.execute.new.self.conn.now in
    record {
      wrote = λ clean inside schema.
          let ran : ExecutesInside 0 insert_bounded_text (shown_entry Second c.args.entry.now) old new c.execute.result =
          subst (λ row. ExecutesInside 0 insert_bounded_text row old new c.execute.result) c.second_values.ensures (c.execute.ensures.runs clean inside) in
          wrote_bounded old new c.args.entry.now c.execute.result ran schema;
      kept = λ clean inside. search rules;
      mode = λ clean inside. search rules;
      crash = c.execute.ensures.survives;
    }

pub returns-clause-told : goal.returns-clause-told
returns-clause-told g c clean inside =
    let old = state g.S.Store c.args.transaction.now.conn.now in
    let new = state g.S.Store c.execute.new.self.conn.now in
    let ran : ExecutesInside 0 insert_bounded_text (shown_entry Second c.args.entry.now) old new c.execute.result =
    subst (λ row. ExecutesInside 0 insert_bounded_text row old new c.execute.result) c.second_values.ensures (c.execute.ensures.runs clean inside) in
    err_inside old new insert_bounded_text (shown_entry Second c.args.entry.now) c.execute.result ran
