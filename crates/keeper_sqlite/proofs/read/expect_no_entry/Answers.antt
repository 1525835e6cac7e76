use Rattle.keeper_sqlite.proofs.Common.{rules, arith, length, ◌≡◌, entry_row, rows_in}
use Rattle.keeper_sqlite.proofs.Reading.{none_left}
use Rattle.keeper_sqlite.proofs.read.expect_no_entry.Goals as goal

pub returns-clause-found : goal.returns-clause-found
returns-clause-found g c clean =
    let old = c.args.connection.now in
    let entries = c.in_ok-entries.entries in
    let empty : entries.len ≡ 0 = search rules in
    let none : length entries.items ≡ 0 = omega (arith, entries.ok.0, empty) in
    none_left (entry_row c.args.table) entries.items (rows_in old.schema (g.S.Store.view old.store).trees c.args.table) none (c.in_ok-entries.ensures.found clean)
