use Rattle.keeper_sqlite.proofs.Common.{◌≡◌, map, length, [], state, HasGiven, HasCleanDisk, IsUnchanged, Survives, shown_entry, FitsTable, AllByRecursion}
use Rattle.keeper_sqlite.proofs.select.show_entries.Given as goal

abbrev pub invariant-rows : goal.invariant-rows
invariant-rows g l =
    let old = state g.S.Store l.fn.connection in
    let now = state g.S.Store l.rows.conn.now in
    record {
      same : l.rows.conn.ghost_name ≡ l.initial.rows.conn.ghost_name;
      crash : Survives old now (λ _. ⊥);
      given : HasCleanDisk now → HasGiven g.S.Store l.sql [] l.rows.conn.now (map (shown_entry l.table) l.entries.items) × IsUnchanged old now;
      fit : AllByRecursion (FitsTable l.table) l.entries.items;
      count : length l.entries.items ≡ l._place;
    }
