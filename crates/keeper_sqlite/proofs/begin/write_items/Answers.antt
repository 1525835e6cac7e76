use Rattle.keeper_sqlite.proofs.Common.{rules, arith, ◌≡◌, inl, ◌<◌, [], ◌∷◌, length, refl, sym, subst, ◌∙◌, slice_get_read, state, HasCleanDisk, IsBookSchema, item_row, shown_item, tree_of}
use Rattle.keeper_sqlite.proofs.Common.{refusal_of, IsRefusedInsideWith, Database, Wrote}
use Rattle.keeper_sqlite.specs.Unbegun.{insert_of}
use Rattle.keeper_sqlite.proofs.Begins.{survives_on, keeps_on, wrote_next}
use Rattle.keeper_sqlite.proofs.begin.write_items.Goals as goal

pub loop-item-preserved : goal.loop-item-preserved
loop-item-preserved g c =
    let start = state g.S.Store c.args.transaction.now.conn.now in
    let mid = state g.S.Store c.loop-item.transaction.conn.now in
    let next = state g.S.Store c.insert_item.new.transaction.conn.now in
    let tree = tree_of c.args.table in
    let inv = c.loop-item.invariant in
    record {
      count = search rules;
      same = c.insert_item.ensures.same_reference ∙ inv.same;
      crash = survives_on start mid next inv.crash c.insert_item.ensures.writes.crash;
      kept = λ clean inside.
          let early : HasCleanDisk mid = omega (arith, c.insert_item.ensures.writes.crash.clean) in
          let so_far = inv.kept early inside in (
            c.in_ok-insert_item.ensures.writes.mode clean so_far.0,
            keeps_on start mid next so_far.1 (c.insert_item.ensures.writes.kept clean so_far.0),
          );
      wrote = λ clean inside schema.
          let early : HasCleanDisk mid = omega (arith, c.insert_item.ensures.writes.crash.clean) in
          let so_far = inv.wrote early inside schema in
          let now = c.in_ok-insert_item.ensures.writes.wrote clean (inv.kept early inside).0 (subst IsBookSchema (sym so_far.schema) schema) in
          let one : Wrote tree (item_row c.loop-item.item-index c.item-item.result ∷ []) mid next =
          subst (λ n. Wrote tree (item_row n c.item-item.result ∷ []) mid next) inv.count (subst (λ b. Wrote tree (item_row c.loop-item.number b ∷ []) mid next) c.as_slice.ensures now) in
          let inside_list : c.loop-item.item-index < length c.args.items.now = omega arith in
          wrote_next tree c.loop-item.item-index c.args.items.now c.item-item.result start mid next inside_list c.item-item.is so_far one;
    }

pub returns-in_err-insert_item-clause-fault : goal.returns-in_err-insert_item-clause-fault
returns-in_err-insert_item-clause-fault g c clean inside fault =
    let mid = state g.S.Store c.loop-item.transaction.conn.now in
    let new = state g.S.Store c.insert_item.new.transaction.conn.now in
    let inv = c.loop-item.invariant in
    let error = c.in_err-insert_item.field-0.0 in
    let insert = insert_of c.args.table in
    let early : HasCleanDisk mid = omega (arith, c.insert_item.ensures.writes.crash.clean) in
    let why : refusal_of error ≡ Database = search rules in
    let told = c.in_err-insert_item.ensures.told clean (inv.kept early inside).0 in
    let inside_list : c.loop-item.item-index < length c.args.items.now = omega arith in
    inl (record {
      number = c.loop-item.item-index;
      item = c.item-item.result;
      is = slice_get_read c.args.items.now _ c.loop-item.item-index c.item-item.result refl inside_list c.item-item.is;
      before = c.loop-item.transaction.conn.now;
      written = λ schema. inv.wrote early inside schema;
      refused = (
        error,
        subst (λ n. IsRefusedInsideWith insert (shown_item n c.item-item.result) mid new error) inv.count (subst (λ b. IsRefusedInsideWith insert (shown_item c.loop-item.number b) mid new error) c.as_slice.ensures told),
        why,
      );
    })
