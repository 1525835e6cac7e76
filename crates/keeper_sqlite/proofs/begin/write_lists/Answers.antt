use Rattle.keeper_sqlite.proofs.Common.{rules, arith, inl, inr, IsErrOf, ◌≡◌, refl, true, sym, subst, ◌∙◌, state, Trees, HasCleanDisk, Survives, survives_then, survives_begin, IsBookSchema, Database}
use Rattle.keeper_sqlite.proofs.Common.{refusal_of, HasBegunBook, MayBegin, BeginsRows}
use Rattle.keeper_sqlite.proofs.Begins.{survives_on, lists_wrote}
use Rattle.keeper_sqlite.proofs.begin.write_lists.Goals as goal

pub returns-clause-begun : goal.returns-clause-begun
returns-clause-begun g c clean schema =
    let old = c.args.connection.now in
    let a = c.write_items.new.transaction.conn.now in
    let b = c.write_items-2.new.transaction.conn.now in
    let begun = c.transaction-transaction.ensures.begun in
    let start = state g.S.Store (record old { in_transaction = true }) in
    let first = rw (begun, c.as_slice.ensures) at c.in_ok-write_items.ensures.writes in
    let second = rw (c.as_slice-2.ensures) at c.in_ok-write_items-2.ensures.writes in
    let rows = λ (clean : HasCleanDisk (state g.S.Store b)) (schema : IsBookSchema (state g.S.Store old).now.schema).
    lists_wrote _ _ start (state g.S.Store a) (state g.S.Store b) c.args.meta.now c.args.mutations.now first second clean refl schema in
    let end = c.commit.new.self.0 in
    let same : end ≡ c.connection-2-1.given.0 = search rules in
    let late : HasCleanDisk (state g.S.Store end) = search rules in
    let shown = (c.in_ok-commit.ensures.ok late).1 in
    let made : HasBegunBook (state g.S.Store old) (state g.S.Store end) c.args.meta.now c.args.mutations.now = record {
      rows = subst (λ d. BeginsRows (state g.S.Store old).now d c.args.meta.now c.args.mutations.now) (sym shown.now_is) (rows (omega (arith, c.commit.ensures.survives.clean)) schema);
      is_open = shown.is_open;
      autocommit = shown.mode;
      committed = shown.committed_is ∙ sym shown.now_is;
    } in
    subst (λ h. HasBegunBook (state g.S.Store old) (state g.S.Store h) c.args.meta.now c.args.mutations.now) same made

pub returns-clause-crash : goal.returns-clause-crash
returns-clause-crash g c =
    let old = c.args.connection.now in
    let a = c.write_items.new.transaction.conn.now in
    let b = c.write_items-2.new.transaction.conn.now in
    let begun = c.transaction-transaction.ensures.begun in
    let start = state g.S.Store (record old { in_transaction = true }) in
    let first = rw (begun, c.as_slice.ensures) at c.in_ok-write_items.ensures.writes in
    let second = rw (c.as_slice-2.ensures) at c.in_ok-write_items-2.ensures.writes in
    let rows = λ (clean : HasCleanDisk (state g.S.Store b)) (schema : IsBookSchema (state g.S.Store old).now.schema).
    lists_wrote _ _ start (state g.S.Store a) (state g.S.Store b) c.args.meta.now c.args.mutations.now first second clean refl schema in
    let end = c.commit.new.self.0 in
    let same : end ≡ c.connection-2-1.given.0 = search rules in
    let P = λ (trees : Trees). IsBookSchema (state g.S.Store old).now.schema → MayBegin (state g.S.Store old).now c.args.meta.now c.args.mutations.now trees in
    let inside = survives_on (state g.S.Store c.transaction-transaction.result.conn.now) (state g.S.Store a) (state g.S.Store b) c.write_items.ensures.writes.crash c.write_items-2.ensures.writes.crash in
    let all = survives_then (state g.S.Store old) (state g.S.Store b) (state g.S.Store end) _ _ P (λ _ db none. absurd none)
    (λ clean db is schema. ((state g.S.Store b).now, rows (omega (arith, c.commit.ensures.survives.clean)) schema, is)) (survives_begin g.S.Store old (state g.S.Store b) _ (rw begun at inside)) c.commit.ensures.survives in
    subst (λ h. Survives (state g.S.Store old) (state g.S.Store h) P) same all

pub returns-in_err-commit-clause-crash : goal.returns-in_err-commit-clause-crash
returns-in_err-commit-clause-crash g c =
    let old = c.args.connection.now in
    let a = c.write_items.new.transaction.conn.now in
    let b = c.write_items-2.new.transaction.conn.now in
    let begun = c.transaction-transaction.ensures.begun in
    let start = state g.S.Store (record old { in_transaction = true }) in
    let first = rw (begun, c.as_slice.ensures) at c.in_ok-write_items.ensures.writes in
    let second = rw (c.as_slice-2.ensures) at c.in_ok-write_items-2.ensures.writes in
    let rows = λ (clean : HasCleanDisk (state g.S.Store b)) (schema : IsBookSchema (state g.S.Store old).now.schema).
    lists_wrote _ _ start (state g.S.Store a) (state g.S.Store b) c.args.meta.now c.args.mutations.now first second clean refl schema in
    let end = c.commit.new.self.0 in
    let same : end ≡ c.connection-2-1.given.0 = search rules in
    let P = λ (trees : Trees). IsBookSchema (state g.S.Store old).now.schema → MayBegin (state g.S.Store old).now c.args.meta.now c.args.mutations.now trees in
    let inside = survives_on (state g.S.Store c.transaction-transaction.result.conn.now) (state g.S.Store a) (state g.S.Store b) c.write_items.ensures.writes.crash c.write_items-2.ensures.writes.crash in
    let all = survives_then (state g.S.Store old) (state g.S.Store b) (state g.S.Store end) _ _ P (λ _ db none. absurd none)
    (λ clean db is schema. ((state g.S.Store b).now, rows (omega (arith, c.commit.ensures.survives.clean)) schema, is)) (survives_begin g.S.Store old (state g.S.Store b) _ (rw begun at inside)) c.commit.ensures.survives in
    subst (λ h. Survives (state g.S.Store old) (state g.S.Store h) P) same all

pub returns-in_err-write_items-clause-fault : goal.returns-in_err-write_items-clause-fault
returns-in_err-write_items-clause-fault g c clean fault =
    let a = c.write_items.new.transaction.conn.now in
    let end = c.drop-transaction.new.self.0 in
    let late : HasCleanDisk (state g.S.Store end) = search rules in
    let early : HasCleanDisk (state g.S.Store a) = omega (arith, c.drop-transaction.ensures.survives.clean) in
    let why : IsErrOf c.write_items.result Database = search rules in
    (a, inl ((rw (c.transaction-transaction.ensures.begun, c.as_slice.ensures) at c.write_items.ensures.fault) early refl why))

pub returns-in_err-write_items-2-clause-fault : goal.returns-in_err-write_items-2-clause-fault
returns-in_err-write_items-2-clause-fault g c clean fault =
    let a = c.write_items.new.transaction.conn.now in
    let b = c.write_items-2.new.transaction.conn.now in
    let end = c.drop-transaction-in_err-write_items-2.new.self.0 in
    let late : HasCleanDisk (state g.S.Store end) = search rules in
    let then : HasCleanDisk (state g.S.Store b) = omega (arith, c.drop-transaction-in_err-write_items-2.ensures.survives.clean) in
    let early : HasCleanDisk (state g.S.Store a) = omega (arith, c.write_items-2.ensures.writes.crash.clean) in
    let why : IsErrOf c.write_items-2.result Database = search rules in
    let first = rw (c.transaction-transaction.ensures.begun, c.as_slice.ensures) at c.in_ok-write_items.ensures.writes in
    (b, inr (inl (a, λ schema. first.wrote early refl schema, (rw c.as_slice-2.ensures at c.write_items-2.ensures.fault) then (first.mode early refl) why)))

pub returns-in_err-commit-clause-fault : goal.returns-in_err-commit-clause-fault
returns-in_err-commit-clause-fault g c clean fault =
    let old = c.args.connection.now in
    let a = c.write_items.new.transaction.conn.now in
    let b = c.write_items-2.new.transaction.conn.now in
    let start = state g.S.Store (record old { in_transaction = true }) in
    let first = rw (c.transaction-transaction.ensures.begun, c.as_slice.ensures) at c.in_ok-write_items.ensures.writes in
    let second = rw (c.as_slice-2.ensures) at c.in_ok-write_items-2.ensures.writes in
    let end = c.commit.new.self.0 in
    let late : HasCleanDisk (state g.S.Store end) = search rules in
    let early : HasCleanDisk (state g.S.Store b) = omega (arith, c.commit.ensures.survives.clean) in
    let error = c.in_err-commit.field-0.0 in
    let why : refusal_of error ≡ Database = search rules in (
      end,
      inr (inr (record {
        before = b;
        written = λ schema. lists_wrote _ _ start (state g.S.Store a) (state g.S.Store b) c.args.meta.now c.args.mutations.now first second early refl schema;
        refused = (error, c.in_err-commit.ensures.err late, why);
      })),
    )
