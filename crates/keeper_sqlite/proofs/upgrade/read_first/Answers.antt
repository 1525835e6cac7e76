use Rattle.keeper_sqlite.proofs.Common.{rules, inl, inr, ◌≡◌, [], false, true, map, sym, subst, IsErrOf, state, Shown, First, Database, SELECT_JOURNAL, refusal_of, shown_entry, HoldsJournal}
use Rattle.keeper_sqlite.proofs.Common.{RisesFrom}
use Rattle.keeper_sqlite.proofs.Reading.{failed_inside, query_keeps, unchanged_keeps}
use Rattle.keeper_sqlite.proofs.Selects.{entries_plain, holds_entries, shows_unchanged}
use Rattle.keeper_sqlite.proofs.upgrade.read_first.Goals as goal

pub returns-clause-found : goal.returns-clause-found
returns-clause-found g c clean tables live =
    let old = state g.S.Store c.args.transaction.now.conn.now in
    let new = state g.S.Store c.query_all.new.self.conn.now in
    let entries = c.in_ok-entries.entries.items in
    let is : c.in_ok-rows.rows.items ≡ map (shown_entry First) entries = search rules in
    let shown : Shown SELECT_JOURNAL.now [] old new (map (shown_entry First) entries) = rw is at (c.in_ok-rows.ensures.ok clean) in
    let was_open = (shows_unchanged SELECT_JOURNAL.now old new _ (entries_plain First old tables) shown).0.was_open in
    let holds : HoldsJournal First (old.now.trees 2) entries =
    record { rising = search rules; fit = c.in_ok-entries.ensures.found.1; same = holds_entries First old new entries tables (live was_open).0 shown } in
    search rules

pub returns-clause-same : goal.returns-clause-same
returns-clause-same g c clean tables =
    let old = state g.S.Store c.args.transaction.now.conn.now in
    let new = state g.S.Store c.query_all.new.self.conn.now in
    shows_unchanged SELECT_JOURNAL.now old new _ (entries_plain First old tables) (c.in_ok-rows.ensures.ok clean)

pub returns-clause-kept : goal.returns-clause-kept
returns-clause-kept g c clean tables =
    let old = state g.S.Store c.args.transaction.now.conn.now in
    let new = state g.S.Store c.query_all.new.self.conn.now in
    unchanged_keeps old new (shows_unchanged SELECT_JOURNAL.now old new _ (entries_plain First old tables) (c.in_ok-rows.ensures.ok clean))

pub returns-in_err-rows-clause-kept : goal.returns-in_err-rows-clause-kept
returns-in_err-rows-clause-kept g c clean tables =
    let old = state g.S.Store c.args.transaction.now.conn.now in
    query_keeps SELECT_JOURNAL.now old (state g.S.Store c.query_all.new.self.conn.now) _ (entries_plain First old tables) (c.in_err-rows.ensures.err clean)

pub returns-in_err-entries-clause-kept : goal.returns-in_err-entries-clause-kept
returns-in_err-entries-clause-kept g c clean tables =
    let old = state g.S.Store c.args.transaction.now.conn.now in
    let new = state g.S.Store c.query_all.new.self.conn.now in
    unchanged_keeps old new (shows_unchanged SELECT_JOURNAL.now old new _ (entries_plain First old tables) (c.in_ok-rows.ensures.ok clean))

pub returns-in_err-rows-clause-fault : goal.returns-in_err-rows-clause-fault
returns-in_err-rows-clause-fault g c clean inside fault =
    let error = c.in_err-rows.field-0.0 in
    let why : refusal_of error ≡ Database = search rules in
    inl (error, failed_inside SELECT_JOURNAL.now (state g.S.Store c.args.transaction.now.conn.now) (state g.S.Store c.query_all.new.self.conn.now) error inside (c.in_err-rows.ensures.err clean), why)

pub returns-in_err-entries-clause-fault : goal.returns-in_err-entries-clause-fault
returns-in_err-entries-clause-fault g c clean inside fault =
    let why : IsErrOf c.entries_of.result Database = search rules in
    let slice : c.as_slice.result.now ≡ c.in_ok-rows.rows.items = search rules in
    inr (c.in_ok-rows.rows.items, c.in_ok-rows.ensures.ok clean, inl (rw slice at (c.entries_of.ensures.fault why)))

pub returns-then-not-are_rising-clause-kept : goal.returns-then-not-are_rising-clause-kept
returns-then-not-are_rising-clause-kept g c clean tables =
    let old = state g.S.Store c.args.transaction.now.conn.now in
    let new = state g.S.Store c.query_all.new.self.conn.now in
    unchanged_keeps old new (shows_unchanged SELECT_JOURNAL.now old new _ (entries_plain First old tables) (c.in_ok-rows.ensures.ok clean))

pub returns-then-not-are_rising-clause-fault : goal.returns-then-not-are_rising-clause-fault
returns-then-not-are_rising-clause-fault g c clean inside fault =
    let entries = c.in_ok-entries.entries.items in
    let is : c.in_ok-rows.rows.items ≡ map (shown_entry First) entries = search rules in
    let slice : c.as_slice-2.result.now ≡ entries = search rules in
    let fall : c.are_rising.result ≡ false = search rules in
    let no : RisesFrom 0 entries → ⊥ = λ up. absurd (let yes : c.are_rising.result ≡ true = c.are_rising.ensures.1 (subst (RisesFrom 0) (sym slice) up) in cc) in
    inr (c.in_ok-rows.rows.items, c.in_ok-rows.ensures.ok clean, inr (entries, is, no))
