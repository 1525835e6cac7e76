use Rattle.keeper_sqlite.proofs.Common.{◌≡◌, length, [], state, HasGiven, HasCleanDisk, IsUnchanged, Survives, shown_items}
use Rattle.keeper_sqlite.proofs.select.show_items.Given as goal

abbrev pub invariant-rows : goal.invariant-rows
invariant-rows g l =
    let old = state g.S.Store l.fn.connection in
    let now = state g.S.Store l.rows.conn.now in
    record {
      same : l.rows.conn.ghost_name ≡ l.initial.rows.conn.ghost_name;
      crash : Survives old now (λ _. ⊥);
      given : HasCleanDisk now → HasGiven g.S.Store l.sql [] l.rows.conn.now (shown_items 0 l.items.items) × IsUnchanged old now;
      count : length l.items.items ≡ l.number;
    }
