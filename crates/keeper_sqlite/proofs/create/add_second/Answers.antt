use Rattle.keeper_sqlite.proofs.Common.{rules, arith, inl, true, not, refl, ap, subst, OnOk, ◌≡◌, ◌∙◌, IsTrue, state, Trees, HasCleanDisk, Survives, survives_then, survives_begin, IsFirstSchema}
use Rattle.keeper_sqlite.proofs.Common.{HasAddedSecond, MayMake, IsNotAddedTo}
use Rattle.keeper_sqlite.proofs.Seconds.{adding_refused, may_add, second_made}
use Rattle.keeper_sqlite.proofs.Refused.{on_same}
use Rattle.keeper_sqlite.proofs.create.add_second.Goals as goal

pub returns-clause-made : goal.returns-clause-made
returns-clause-made g c clean first =
    let old = c.args.connection.now in
    let mid = c.create_second.new.transaction.conn.now in
    let end = c.commit.new.self.0 in
    let late : HasCleanDisk (state g.S.Store end) = search rules in
    let early : HasCleanDisk (state g.S.Store mid) = omega (arith, c.commit.ensures.survives.clean) in
    let made = (rw c.transaction-transaction.ensures.begun at c.in_ok-create_second.ensures.made) early refl first in
    let yes : IsTrue c.is_autocommit-settled.result = c.is_autocommit-settled.ensures.value ∙ ap not c.requires in
    let same : end ≡ c.connection-2-1.given.0 = search rules in
    subst (λ h. OnOk c.commit.result (HasAddedSecond (state g.S.Store old) (state g.S.Store h))) same (second_made g.S.Store old mid end c.commit.result first (λ is_open. (c.schema-sound.ensures.live is_open).0) (c.is_autocommit-settled.ensures.settled yes) made (c.commit.ensures.ok late))

pub returns-clause-told : goal.returns-clause-told
returns-clause-told g c clean first =
    let before = c.create_second.new.transaction.conn.now in
    let end = c.commit.new.self.0 in
    let late : HasCleanDisk (state g.S.Store end) = search rules in
    let early : HasCleanDisk (state g.S.Store before) = omega (arith, c.commit.ensures.survives.clean) in
    let made = (rw c.transaction-transaction.ensures.begun at c.in_ok-create_second.ensures.made) early refl first in
    adding_refused g.S.Store (record c.args.connection.now { in_transaction = true }) before end c.commit.result made (c.commit.ensures.err late)

pub returns-in_err-create_second-clause-told : goal.returns-in_err-create_second-clause-told
returns-in_err-create_second-clause-told g c clean first =
    let after = c.create_second.new.transaction.conn.now in
    let start = record c.args.connection.now { in_transaction = true } in
    let late : HasCleanDisk (state g.S.Store c.drop-transaction.new.self.0) = search rules in
    let early : HasCleanDisk (state g.S.Store after) = omega (arith, c.drop-transaction.ensures.survives.clean) in
    let unmade : IsNotAddedTo g.S.Store start c.in_err-create_second.field-0.0 = (after, inl ((rw c.transaction-transaction.ensures.begun at c.in_err-create_second.ensures.told) early refl)) in
    on_same c.from_residual.result c.in_err-create_second.field-0.0 (IsNotAddedTo g.S.Store start) c.from_residual.ensures.1 unmade

pub returns-clause-crash : goal.returns-clause-crash
returns-clause-crash g c =
    let old = c.args.connection.now in
    let mid = c.create_second.new.transaction.conn.now in
    let end = c.commit.new.self.0 in
    let begun = c.transaction-transaction.ensures.begun in
    let yes : IsTrue c.is_autocommit-settled.result = c.is_autocommit-settled.ensures.value ∙ ap not c.requires in
    let P = λ (trees : Trees). IsFirstSchema (state g.S.Store old).now.schema → MayMake (state g.S.Store old) trees in
    let same : end ≡ c.connection-2-1.given.0 = search rules in
    subst (λ h. Survives (state g.S.Store old) (state g.S.Store h) P) same (survives_then (state g.S.Store old) (state g.S.Store mid) (state g.S.Store end) _ _ P (λ _ db none. absurd none)
    (λ clean db is first.
    let made = (rw begun at c.in_ok-create_second.ensures.made) (omega (arith, c.commit.ensures.survives.clean)) refl first in
    may_add g.S.Store old mid db first (λ is_open. (c.schema-sound.ensures.live is_open).0) (c.is_autocommit-settled.ensures.settled yes) made is)
    (survives_begin g.S.Store old (state g.S.Store mid) _ (rw begun at c.create_second.ensures.crash)) c.commit.ensures.survives)
