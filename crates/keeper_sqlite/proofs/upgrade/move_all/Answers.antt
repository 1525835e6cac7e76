use Rattle.keeper_sqlite.proofs.Common.{rules, arith, inl, inr, ◌≡◌, refl, sym, subst, ◌∙◌, IsErrOf, state, Trees, HasCleanDisk, Survives, survives_then, survives_begin, Database, refusal_of}
use Rattle.keeper_sqlite.proofs.Common.{IsBookSchema, HasUpgraded, MayUpgrade, Upgrades}
use Rattle.keeper_sqlite.proofs.upgrade.move_all.Goals as goal

pub returns-clause-upgraded : goal.returns-clause-upgraded
returns-clause-upgraded g c clean schema =
    let old = c.args.connection.now in
    let end = c.commit.new.self.0 in
    let same : end ≡ c.connection-2-1.given.0 = search rules in
    let late : HasCleanDisk (state g.S.Store end) = search rules in
    let shown = (c.in_ok-commit.ensures.ok late).1 in
    let moved = (rw c.transaction-transaction.ensures.begun at c.in_ok-move_rows.ensures.moved) (omega (arith, c.commit.ensures.survives.clean)) refl schema (λ is_open. c.schema-sound.ensures.live is_open) in
    let made : HasUpgraded (state g.S.Store old) (state g.S.Store end) c.args.bounds.now = record {
      entries = moved.entries;
      rows = subst (λ d. Upgrades (state g.S.Store old).now d c.args.bounds.now moved.entries) (sym shown.now_is) moved.rows;
      is_open = shown.is_open;
      autocommit = shown.mode;
      committed = shown.committed_is ∙ sym shown.now_is;
    } in
    subst (λ h. HasUpgraded (state g.S.Store old) (state g.S.Store h) c.args.bounds.now) same made

pub returns-clause-crash : goal.returns-clause-crash
returns-clause-crash g c =
    let old = c.args.connection.now in
    let a = c.move_rows.new.transaction.conn.now in
    let begun = c.transaction-transaction.ensures.begun in
    let moved = rw begun at c.in_ok-move_rows.ensures.moved in
    let end = c.commit.new.self.0 in
    let same : end ≡ c.connection-2-1.given.0 = search rules in
    let P = λ (trees : Trees). IsBookSchema (state g.S.Store old).now.schema → MayUpgrade (state g.S.Store old).now c.args.bounds.now trees in
    let all = survives_then (state g.S.Store old) (state g.S.Store a) (state g.S.Store end) _ _ P (λ _ db none. absurd none)
    (λ clean db is schema. let it = moved (omega (arith, c.commit.ensures.survives.clean)) refl schema (λ is_open. c.schema-sound.ensures.live is_open) in ((state g.S.Store a).now, it.entries, it.rows, is))
    (survives_begin g.S.Store old (state g.S.Store a) _ (rw begun at c.move_rows.ensures.crash)) c.commit.ensures.survives in
    subst (λ h. Survives (state g.S.Store old) (state g.S.Store h) P) same all

pub returns-in_err-commit-clause-crash : goal.returns-in_err-commit-clause-crash
returns-in_err-commit-clause-crash g c =
    let old = c.args.connection.now in
    let a = c.move_rows.new.transaction.conn.now in
    let begun = c.transaction-transaction.ensures.begun in
    let moved = rw begun at c.in_ok-move_rows.ensures.moved in
    let end = c.commit.new.self.0 in
    let same : end ≡ c.connection-2-1.given.0 = search rules in
    let P = λ (trees : Trees). IsBookSchema (state g.S.Store old).now.schema → MayUpgrade (state g.S.Store old).now c.args.bounds.now trees in
    let all = survives_then (state g.S.Store old) (state g.S.Store a) (state g.S.Store end) _ _ P (λ _ db none. absurd none)
    (λ clean db is schema. let it = moved (omega (arith, c.commit.ensures.survives.clean)) refl schema (λ is_open. c.schema-sound.ensures.live is_open) in ((state g.S.Store a).now, it.entries, it.rows, is))
    (survives_begin g.S.Store old (state g.S.Store a) _ (rw begun at c.move_rows.ensures.crash)) c.commit.ensures.survives in
    subst (λ h. Survives (state g.S.Store old) (state g.S.Store h) P) same all

pub returns-in_err-move_rows-clause-fault : goal.returns-in_err-move_rows-clause-fault
returns-in_err-move_rows-clause-fault g c clean fault =
    let a = c.move_rows.new.transaction.conn.now in
    let end = c.drop-transaction.new.self.0 in
    let late : HasCleanDisk (state g.S.Store end) = search rules in
    let early : HasCleanDisk (state g.S.Store a) = omega (arith, c.drop-transaction.ensures.survives.clean) in
    let why : IsErrOf c.move_rows.result Database = search rules in
    (a, inl ((rw c.transaction-transaction.ensures.begun at c.move_rows.ensures.fault) early refl c.requires.tables (λ is_open. c.schema-sound.ensures.live is_open) why))

pub returns-in_err-commit-clause-fault : goal.returns-in_err-commit-clause-fault
returns-in_err-commit-clause-fault g c clean fault =
    let a = c.move_rows.new.transaction.conn.now in
    let end = c.commit.new.self.0 in
    let late : HasCleanDisk (state g.S.Store end) = search rules in
    let early : HasCleanDisk (state g.S.Store a) = omega (arith, c.commit.ensures.survives.clean) in
    let moved = (rw c.transaction-transaction.ensures.begun at c.in_ok-move_rows.ensures.moved) early refl c.requires.tables (λ is_open. c.schema-sound.ensures.live is_open) in
    let error = c.in_err-commit.field-0.0 in
    let why : refusal_of error ≡ Database = search rules in
    (end, inr (a, moved, (error, c.in_err-commit.ensures.err late, why)))
