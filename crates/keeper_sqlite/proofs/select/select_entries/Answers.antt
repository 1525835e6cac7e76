use Rattle.keeper_sqlite.proofs.Common.{arith, map, shown_entry, HasCleanDisk, state, select_from}
use Rattle.keeper_sqlite.proofs.Selects.{shows_entries, ok_unchanged, entries_plain}
use Rattle.keeper_sqlite.proofs.select.select_entries.Goals as goal

pub show_entries-requires : goal.show_entries-requires
show_entries-requires g c clean = rw c.text.ensures (entries_plain c.args.table (state g.S.Store c.args.connection.now) (c.requires clean))

pub returns-clause-shown : goal.returns-clause-shown
returns-clause-shown g c clean = rw c.text.ensures at (c.show_entries.ensures.shown clean)

pub returns-clause-fault : goal.returns-clause-fault
returns-clause-fault g c clean fault = rw c.text.ensures at (c.show_entries.ensures.fault clean fault)

pub returns-clause-found : goal.returns-clause-found
returns-clause-found g c clean =
    let old = state g.S.Store c.args.connection.now in
    let new = state g.S.Store c.show_entries.new.connection in
    let early : HasCleanDisk old = omega (arith, c.show_entries.ensures.crash.clean) in
    shows_entries c.args.table (λ found. found.items) old new c.show_entries.result (c.requires early) (λ is_open. (c.schema-sound.ensures.live is_open).0) (rw c.text.ensures at (c.show_entries.ensures.shown clean))

pub returns-clause-same : goal.returns-clause-same
returns-clause-same g c clean =
    let old = state g.S.Store c.args.connection.now in
    let new = state g.S.Store c.show_entries.new.connection in
    let early : HasCleanDisk old = omega (arith, c.show_entries.ensures.crash.clean) in
    ok_unchanged (λ rows. map (shown_entry c.args.table) rows.items) (select_from c.args.table) old new c.show_entries.result (entries_plain c.args.table old (c.requires early)) (rw c.text.ensures at (c.show_entries.ensures.shown clean))
