use Rattle.keeper_sqlite.proofs.Common.{◌≡◌, IsTrue, map, take, state, HasCleanDisk, KeepsCommit, Survives, Second, IsBookSchema, second_tree, entry_row, Wrote}
use Rattle.keeper_sqlite.proofs.upgrade.write_entries.Given as goal

abbrev pub invariant-loop-entry : goal.invariant-loop-entry
invariant-loop-entry g l = record {
  same : l.transaction.conn.ghost_name ≡ l.initial.transaction.conn.ghost_name;
  crash : Survives (state g.S.Store l.initial.transaction.conn.now) (state g.S.Store l.transaction.conn.now) (λ _. ⊥);
  kept : HasCleanDisk (state g.S.Store l.transaction.conn.now) → IsTrue (state g.S.Store l.initial.transaction.conn.now).in_transaction
      → IsTrue (state g.S.Store l.transaction.conn.now).in_transaction × KeepsCommit (state g.S.Store l.initial.transaction.conn.now) (state g.S.Store l.transaction.conn.now);
  wrote : HasCleanDisk (state g.S.Store l.transaction.conn.now) → IsTrue (state g.S.Store l.initial.transaction.conn.now).in_transaction → IsBookSchema (state g.S.Store l.initial.transaction.conn.now).now.schema
      → Wrote (second_tree (state g.S.Store l.initial.transaction.conn.now).now.schema) (map (entry_row Second) (take l.entry-index l.entries)) (state g.S.Store l.initial.transaction.conn.now) (state g.S.Store l.transaction.conn.now);
}
