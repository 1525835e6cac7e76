use Rattle.keeper_sqlite.proofs.Common.{rules, inl, inr, refl, sym, subst, ◌≡◌, ◌∙◌, arith, state, HasCleanDisk, CREATE_META, CREATE_MUTATIONS, CREATE_JOURNAL, CREATE_SECOND, IsCreateRefused}
use Rattle.keeper_sqlite.proofs.Common.{IsFirstSchema, schema_of_first, second_table, MakesTable}
use Rattle.keeper_sqlite.proofs.Creates.{made, after_meta, after_items, after_first, first_alone}
use Rattle.keeper_sqlite.proofs.create.create_tables.Goals as goal

pub returns-clause-made : goal.returns-clause-made
returns-clause-made g c clean inside schema =
    let s = state g.S.Store c.args.transaction.now.conn.now in
    let a = state g.S.Store c.create_meta.new.transaction.conn.now in
    let b = state g.S.Store c.create_mutations.new.transaction.conn.now in
    let d = state g.S.Store c.create_journal.new.transaction.conn.now in
    let e = state g.S.Store c.create_second.new.transaction.conn.now in
    let last : HasCleanDisk d = omega (arith, c.create_second.ensures.crash.clean) in
    let late : HasCleanDisk b = omega (arith, c.create_journal.ensures.crash.clean, last) in
    let early : HasCleanDisk a = omega (arith, c.create_mutations.ensures.crash.clean, late) in
    let x = c.in_ok-create_meta.ensures.made early inside schema in
    let y = c.in_ok-create_mutations.ensures.made late x.mode (x.schema_is ∙ after_meta) in
    let z = c.in_ok-create_journal.ensures.made last y.mode (y.schema_is ∙ after_items) in
    let third : d.now.schema ≡ schema_of_first = z.schema_is ∙ after_first in
    let w : MakesTable schema_of_first second_table d e = subst (λ s. MakesTable s second_table d e) third (c.in_ok-create_second.ensures.made clean z.mode (subst IsFirstSchema (sym third) first_alone)) in
    made s a b d e x y z w

pub returns-in_err-create_meta-clause-told : goal.returns-in_err-create_meta-clause-told
returns-in_err-create_meta-clause-told g c clean inside schema =
    let refused : IsCreateRefused g.S.Store c.create_meta.new.transaction.conn.now c.in_err-create_meta.field-0.0 =
    record { before = c.args.transaction.now.conn.now; text = CREATE_META.now; next = inl (schema, refl); refused = c.in_err-create_meta.ensures.told clean inside } in
    search rules

pub returns-in_err-create_mutations-clause-told : goal.returns-in_err-create_mutations-clause-told
returns-in_err-create_mutations-clause-told g c clean inside schema =
    let a = state g.S.Store c.create_meta.new.transaction.conn.now in
    let early : HasCleanDisk a = omega (arith, c.create_mutations.ensures.crash.clean) in
    let x = c.in_ok-create_meta.ensures.made early inside schema in
    let refused : IsCreateRefused g.S.Store c.create_mutations.new.transaction.conn.now c.in_err-create_mutations.field-0.0 =
    record { before = c.create_meta.new.transaction.conn.now; text = CREATE_MUTATIONS.now; next = inr (inl (x.schema_is ∙ after_meta, refl)); refused = c.in_err-create_mutations.ensures.told clean x.mode } in
    search rules

pub returns-in_err-create_journal-clause-told : goal.returns-in_err-create_journal-clause-told
returns-in_err-create_journal-clause-told g c clean inside schema =
    let a = state g.S.Store c.create_meta.new.transaction.conn.now in
    let b = state g.S.Store c.create_mutations.new.transaction.conn.now in
    let late : HasCleanDisk b = omega (arith, c.create_journal.ensures.crash.clean) in
    let early : HasCleanDisk a = omega (arith, c.create_mutations.ensures.crash.clean, late) in
    let x = c.in_ok-create_meta.ensures.made early inside schema in
    let y = c.in_ok-create_mutations.ensures.made late x.mode (x.schema_is ∙ after_meta) in
    let refused : IsCreateRefused g.S.Store c.create_journal.new.transaction.conn.now c.in_err-create_journal.field-0.0 =
    record { before = c.create_mutations.new.transaction.conn.now; text = CREATE_JOURNAL.now; next = inr (inr (inl (y.schema_is ∙ after_items, refl))); refused = c.in_err-create_journal.ensures.told clean y.mode } in
    search rules

pub returns-in_err-create_second-clause-told : goal.returns-in_err-create_second-clause-told
returns-in_err-create_second-clause-told g c clean inside schema =
    let a = state g.S.Store c.create_meta.new.transaction.conn.now in
    let b = state g.S.Store c.create_mutations.new.transaction.conn.now in
    let d = state g.S.Store c.create_journal.new.transaction.conn.now in
    let last : HasCleanDisk d = omega (arith, c.create_second.ensures.crash.clean) in
    let late : HasCleanDisk b = omega (arith, c.create_journal.ensures.crash.clean, last) in
    let early : HasCleanDisk a = omega (arith, c.create_mutations.ensures.crash.clean, late) in
    let x = c.in_ok-create_meta.ensures.made early inside schema in
    let y = c.in_ok-create_mutations.ensures.made late x.mode (x.schema_is ∙ after_meta) in
    let z = c.in_ok-create_journal.ensures.made last y.mode (y.schema_is ∙ after_items) in
    let refused : IsCreateRefused g.S.Store c.create_second.new.transaction.conn.now c.in_err-create_second.field-0.0 =
    record { before = c.create_journal.new.transaction.conn.now; text = CREATE_SECOND.now; next = inr (inr (inr (z.schema_is ∙ after_first, refl))); refused = c.in_err-create_second.ensures.told clean z.mode } in
    search rules
