use Rattle.keeper_sqlite.proofs.Common.{rules, ◌≡◌, inl, inr, IsTrue, state, survives_weaker, Database, refusal_of, IsFirstSchema, no_schema}
use Rattle.keeper_sqlite.proofs.Loads.{may_make, ready_made, ready_with_second}
use Rattle.keeper_sqlite.proofs.load.ensure_tables.Goals as goal

pub returns-in_err-make_tables-clause-fault : goal.returns-in_err-make_tables-clause-fault
returns-in_err-make_tables-clause-fault g c clean fault =
    let error = c.in_err-make_tables.field-0.0 in
    let why : refusal_of error ≡ Database = search rules in
    let none : c.args.connection.now.schema ≡ no_schema = search rules in
    inr (inr (error, why, inr (c.in_err-make_tables.ensures.told clean none)))

pub returns-in_err-add_second-clause-fault : goal.returns-in_err-add_second-clause-fault
returns-in_err-add_second-clause-fault g c clean fault =
    let error = c.in_err-add_second.field-0.0 in
    let why : refusal_of error ≡ Database = search rules in
    let tables : IsFirstSchema c.args.connection.now.schema = search rules in
    inr (inr (error, why, inl (tables, c.in_err-add_second.ensures.told clean tables)))

pub returns-then-is_first_schema-clause-ready : goal.returns-then-is_first_schema-clause-ready
returns-then-is_first_schema-clause-ready g c clean =
    let tables : IsFirstSchema c.args.connection.now.schema = search rules in
    ready_with_second (state g.S.Store c.args.connection.now) (state g.S.Store c.add_second.new.connection) (c.in_ok-add_second.ensures.made clean tables)

pub returns-then-is_first_schema-clause-crash : goal.returns-then-is_first_schema-clause-crash
returns-then-is_first_schema-clause-crash g c =
    let tables : IsFirstSchema c.args.connection.now.schema = search rules in
    survives_weaker (state g.S.Store c.args.connection.now) (state g.S.Store c.add_second.new.connection) _ _ (λ _ trees may. may tables) c.add_second.ensures.crash

pub returns-in_err-add_second-clause-crash : goal.returns-in_err-add_second-clause-crash
returns-in_err-add_second-clause-crash g c =
    let tables : IsFirstSchema c.args.connection.now.schema = search rules in
    survives_weaker (state g.S.Store c.args.connection.now) (state g.S.Store c.add_second.new.connection) _ _ (λ _ trees may. may tables) c.add_second.ensures.crash

pub returns-clause-ready : goal.returns-clause-ready
returns-clause-ready g c clean =
    let old = state g.S.Store c.args.connection.now in
    let none : c.args.connection.now.schema ≡ no_schema = search rules in
    let yes : IsTrue c.is_autocommit.result = search rules in
    ready_made old (state g.S.Store c.make_tables.new.connection) none (λ is_open. (c.schema-schema.ensures.live is_open).0) (c.is_autocommit.ensures.settled yes) (c.in_ok-make_tables.ensures.made clean none)

pub returns-clause-crash : goal.returns-clause-crash
returns-clause-crash g c =
    let old = state g.S.Store c.args.connection.now in
    let none : c.args.connection.now.schema ≡ no_schema = search rules in
    let yes : IsTrue c.is_autocommit.result = search rules in
    survives_weaker old (state g.S.Store c.make_tables.new.connection) _ _
    (λ _ trees may. may_make old trees none (λ is_open. (c.schema-schema.ensures.live is_open).0) (c.is_autocommit.ensures.settled yes) (may none)) c.make_tables.ensures.crash

pub returns-in_err-make_tables-clause-crash : goal.returns-in_err-make_tables-clause-crash
returns-in_err-make_tables-clause-crash g c =
    let old = state g.S.Store c.args.connection.now in
    let none : c.args.connection.now.schema ≡ no_schema = search rules in
    let yes : IsTrue c.is_autocommit.result = search rules in
    survives_weaker old (state g.S.Store c.make_tables.new.connection) _ _
    (λ _ trees may. may_make old trees none (λ is_open. (c.schema-schema.ensures.live is_open).0) (c.is_autocommit.ensures.settled yes) (may none)) c.make_tables.ensures.crash
