use Rattle.keeper_sqlite.proofs.Common.{rules, arith, inl, inr, IsErrOf, length, length-append, ◌≡◌, refl, sym, ap, subst, ◌∙◌, [], ◌∷◌, ◌++◌, map, state, HasCleanDisk, Survives, CommitsShowing}
use Rattle.keeper_sqlite.proofs.Common.{begun_plain, given_begin, unchanged_then, HasGiven, Database, refusal_of, IsNoEntries, shown_entry, FitsTable, AllByRecursion}
use Rattle.keeper_sqlite.proofs.Adding.{fit_push}
use Rattle.keeper_sqlite.proofs.Refused.{still_itself, begins_from}
use Rattle.keeper_sqlite.proofs.Lists.{map-push}
use Rattle.keeper_sqlite.proofs.Selects.{commits_nothing, shown_from}
use Rattle.keeper_sqlite.proofs.select.show_entries.Goals as goal

pub returns-in_err-rows-clause-crash : goal.returns-in_err-rows-clause-crash
returns-in_err-rows-clause-crash g c =
    let old = state g.S.Store c.args.connection.now in
    let new = state g.S.Store c.query.follows.lender-at-none in
    let held = c.query.follows.holds-at-none in
    let kept : Survives old new (CommitsShowing c.args.sql.now [] old) = search rules in
    commits_nothing c.args.sql.now old new c.requires kept

pub rows-init : goal.rows-init
rows-init g c =
    let old = state g.S.Store c.args.connection.now in
    let made = c.in_ok-rows.ensures in
    let early : HasCleanDisk (state g.S.Store c.in_ok-rows.rows.conn.now) → HasCleanDisk old = λ clean. omega (arith, made.survives.clean) in
    record {
      same = refl;
      crash = commits_nothing c.args.sql.now old (state g.S.Store c.in_ok-rows.rows.conn.now) c.requires made.survives;
      given = λ clean. rw c.new-entries.ensures.items (begun_plain g.S.Store _ _ c.args.connection.now _ (c.requires (early clean)) (made.begun clean));
      fit = subst (AllByRecursion (FitsTable c.args.table)) (sym c.new-entries.ensures.items) tt;
      count = ap length c.new-entries.ensures.items;
    }

pub returns-in_default-clause-shown : goal.returns-in_default-clause-shown
returns-in_default-clause-shown g c clean =
    let moved = c.next.follows.holds-at-none in
    let now = c.next.follows.lender-at-none.conn.now in
    let late : HasCleanDisk (state g.S.Store now) = search rules in
    let was = c.rows.invariant.given (omega (arith, moved.survives.clean)) in
    let early : HasCleanDisk (state g.S.Store c.args.connection.now) = omega (arith, moved.survives.clean, c.rows.invariant.crash.clean) in
    let shown = (rw (c.in_ok-row.was, c.in_default.is) at (moved.ok late)) c.args.sql.now [] (map (shown_entry c.args.table) c.rows.entries.items) was.0 in
    let first = shown_from c.args.sql.now (state g.S.Store c.args.connection.now) _ (state g.S.Store now) _ (c.requires early) was.1 shown in
    search rules

pub rows-preserved : goal.rows-preserved
rows-preserved g c =
    let moved = c.next.follows.holds-at-none in
    let old = state g.S.Store c.args.connection.now in
    let mid = state g.S.Store c.rows.rows.conn.now in
    let new = state g.S.Store c.next.follows.lender-at-none.conn.now in
    let entries = c.rows.entries.items in
    let grown : map (shown_entry c.args.table) entries ++ c.in-Some.row.now ∷ [] ≡ map (shown_entry c.args.table) c.push.new.self.items = ap (λ r. map (shown_entry c.args.table) entries ++ r ∷ []) c.in_ok-entry.ensures.found.0 ∙ sym (map-push (shown_entry c.args.table) entries c.in_ok-entry.entry) ∙ ap (map (shown_entry c.args.table)) (sym c.in_ok-push.ensures.items) in
    record {
      same = search rules;
      crash = search rules;
      given = λ clean.
          let was = c.rows.invariant.given (omega (arith, moved.survives.clean)) in
          let next = (rw (c.in_ok-row.was, c.in-Some.is) at (moved.ok clean)) c.args.sql.now [] (map (shown_entry c.args.table) entries) was.0 in
          (subst (HasGiven g.S.Store c.args.sql.now [] c.next.follows.lender-at-none.conn.now) grown next, unchanged_then old mid new was.1 (rw c.in_ok-row.was at (moved.same clean)));
      fit = subst (AllByRecursion (FitsTable c.args.table)) (sym c.in_ok-push.ensures.items) (fit_push c.args.table entries c.in_ok-entry.entry c.rows.invariant.fit c.in_ok-entry.ensures.found.1);
      count = omega (arith, c.rows.invariant.count, length-append entries (c.in_ok-entry.entry ∷ []), ap length c.in_ok-push.ensures.items);
    }

pub returns-in_err-rows-clause-fault : goal.returns-in_err-rows-clause-fault
returns-in_err-rows-clause-fault g c clean fault =
    let old = c.args.connection.now in
    let held = c.query.follows.holds-at-none in
    let late : HasCleanDisk (state g.S.Store c.query.follows.lender-at-none) = search rules in
    let why : refusal_of c.in_err-rows.field-0.0 ≡ Database = search rules in
    inl (record { before = old; still = still_itself (state g.S.Store old); error = c.in_err-rows.field-0.0; failed = (rw c.in_err-rows.was at held).err late; is = why })

pub returns-in_err-row-clause-fault : goal.returns-in_err-row-clause-fault
returns-in_err-row-clause-fault g c clean fault =
    let moved = c.next.follows.holds-at-none in
    let now = c.next.follows.lender-at-none.conn.now in
    let late : HasCleanDisk (state g.S.Store now) = search rules in
    let was = c.rows.invariant.given (omega (arith, moved.survives.clean)) in
    let failed = (rw c.in_err-row.was at (moved.err late)) c.args.sql.now [] (map (shown_entry c.args.table) c.rows.entries.items) was.0 in
    let why : refusal_of c.in_err-row.field-0.0 ≡ Database = search rules in
    let stopped : IsNoEntries g.S.Store c.args.table c.args.sql.now c.args.connection.now now = inl (record { before = c.rows.rows.conn.now; still = λ _. was.1; error = c.in_err-row.field-0.0; failed = failed; is = why }) in
    search rules

pub returns-in_err-entry-clause-fault : goal.returns-in_err-entry-clause-fault
returns-in_err-entry-clause-fault g c clean fault =
    let moved = c.next.follows.holds-at-none in
    let old = state g.S.Store c.args.connection.now in
    let mid = state g.S.Store c.rows.rows.conn.now in
    let now = c.next.follows.lender-at-none.conn.now in
    let late : HasCleanDisk (state g.S.Store now) = search rules in
    let found = c.rows.entries.items in
    let was = c.rows.invariant.given (omega (arith, moved.survives.clean)) in
    let next = (rw (c.in_ok-row.was, c.in-Some.is) at (moved.ok late)) c.args.sql.now [] (map (shown_entry c.args.table) found) was.0 in
    let same = unchanged_then old mid (state g.S.Store now) was.1 (rw c.in_ok-row.was at (moved.same late)) in
    let begun = begins_from c.args.sql.now old (state g.S.Store now) _ same (given_begin g.S.Store c.args.sql.now [] now _ next) in
    let why : IsErrOf c.entry_of.result Database = search rules in
    inr (found, inr (c.in-Some.row.now, begun, c.entry_of.ensures.fault why))

pub returns-clause-fault : goal.returns-clause-fault
returns-clause-fault g c clean fault =
    let old = state g.S.Store c.args.connection.now in
    let now = c.rows.rows.conn.now in
    let late : HasCleanDisk (state g.S.Store now) = search rules in
    let was = c.rows.invariant.given late in
    let begun = begins_from c.args.sql.now old (state g.S.Store now) _ was.1 (given_begin g.S.Store c.args.sql.now [] now _ was.0) in
    inr (c.rows.entries.items, inl (begun, omega (arith, c.rows.invariant.count)))
