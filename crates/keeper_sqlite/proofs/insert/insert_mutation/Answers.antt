use Rattle.keeper_sqlite.proofs.Common.{rules, state, ExecutesInside, shown_item}
use Rattle.keeper_sqlite.proofs.Texts.{insert_mutation_text}
use Rattle.keeper_sqlite.proofs.Begins.{wrote_mutation}
use Rattle.keeper_sqlite.proofs.Refused.{err_inside}
use Rattle.keeper_sqlite.proofs.insert.insert_mutation.Goals as goal

pub returns-clause-writes : goal.returns-clause-writes
returns-clause-writes g c =
    let old = state g.S.Store c.args.transaction.now.conn.now in
    let new = state g.S.Store c.execute.new.self.conn.now in
    record {
      wrote = λ clean inside schema.
          let ran : ExecutesInside 0 insert_mutation_text (shown_item c.args.number c.args.body.now) old new c.execute.result = rw (c.params-to_sql.ensures, c.params-to_sql-2.ensures) at (c.execute.ensures.runs clean inside) in
          wrote_mutation old new c.args.number c.args.body.now c.execute.result ran schema;
      kept = λ clean inside. search rules;
      mode = λ clean inside. search rules;
      crash = c.execute.ensures.survives;
    }

pub returns-clause-told : goal.returns-clause-told
returns-clause-told g c clean inside =
    let old = state g.S.Store c.args.transaction.now.conn.now in
    let new = state g.S.Store c.execute.new.self.conn.now in
    let ran : ExecutesInside 0 insert_mutation_text (shown_item c.args.number c.args.body.now) old new c.execute.result = rw (c.params-to_sql.ensures, c.params-to_sql-2.ensures) at (c.execute.ensures.runs clean inside) in
    err_inside old new insert_mutation_text (shown_item c.args.number c.args.body.now) c.execute.result ran
