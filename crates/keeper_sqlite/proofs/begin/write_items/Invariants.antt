use Rattle.keeper_sqlite.proofs.Common.{◌≡◌, IsTrue, take, state, HasCleanDisk, KeepsCommit, Survives, IsBookSchema, item_rows, tree_of, Wrote}
use Rattle.keeper_sqlite.proofs.begin.write_items.Given as goal

abbrev pub invariant-loop-item : goal.invariant-loop-item
invariant-loop-item g l = record {
  count : l.number ≡ l.item-index;
  same : l.transaction.conn.ghost_name ≡ l.initial.transaction.conn.ghost_name;
  crash : Survives (state g.S.Store l.initial.transaction.conn.now) (state g.S.Store l.transaction.conn.now) (λ _. ⊥);
  kept : HasCleanDisk (state g.S.Store l.transaction.conn.now) → IsTrue (state g.S.Store l.initial.transaction.conn.now).in_transaction
      → IsTrue (state g.S.Store l.transaction.conn.now).in_transaction × KeepsCommit (state g.S.Store l.initial.transaction.conn.now) (state g.S.Store l.transaction.conn.now);
  wrote : HasCleanDisk (state g.S.Store l.transaction.conn.now) → IsTrue (state g.S.Store l.initial.transaction.conn.now).in_transaction → IsBookSchema (state g.S.Store l.initial.transaction.conn.now).now.schema
      → Wrote (tree_of l.table) (item_rows 0 (take l.item-index l.items)) (state g.S.Store l.initial.transaction.conn.now) (state g.S.Store l.transaction.conn.now);
}
