use Rattle.keeper_sqlite.proofs.Common.{rules, arith, ◌≡◌, ◌<◌, ◌+◌, [], ◌∷◌, get_or, length, sym, subst, ◌∙◌, ap, ◌++◌, map, take, map_more, slice_get-get_or, state, HasCleanDisk, Entry, Second}
use Rattle.keeper_sqlite.proofs.Common.{Database, refusal_of, IsBookSchema, second_tree, entry_row, Wrote}
use Rattle.keeper_sqlite.proofs.Begins.{survives_on, keeps_on, wrote_more}
use Rattle.keeper_sqlite.proofs.upgrade.write_entries.Goals as goal

-- what stands for a row that is not there
abbrev none : Entry
none = record { seq = 0; mutation = 0; test = 0; word = 0; mark = 0; tags = 0; bound = 0 }

pub loop-entry-preserved : goal.loop-entry-preserved
loop-entry-preserved g c =
    let start = state g.S.Store c.args.transaction.now.conn.now in
    let mid = state g.S.Store c.loop-entry.transaction.conn.now in
    let next = state g.S.Store c.insert_bounded.new.transaction.conn.now in
    let tree = second_tree start.now.schema in
    let entries = c.args.entries.now in
    let at = c.loop-entry.entry-index in
    let e = get_or entries at none in
    let inv = c.loop-entry.invariant in
    record {
      same = c.insert_bounded.ensures.same_reference ∙ inv.same;
      crash = survives_on start mid next inv.crash c.insert_bounded.ensures.writes.crash;
      kept = λ clean inside.
          let early : HasCleanDisk mid = omega (arith, c.insert_bounded.ensures.writes.crash.clean) in
          let so_far = inv.kept early inside in (
            c.in_ok-insert_bounded.ensures.writes.mode clean so_far.0,
            keeps_on start mid next so_far.1 (c.insert_bounded.ensures.writes.kept clean so_far.0),
          );
      wrote = λ clean inside schema.
          let early : HasCleanDisk mid = omega (arith, c.insert_bounded.ensures.writes.crash.clean) in
          let so_far = inv.wrote early inside schema in
          let now = c.in_ok-insert_bounded.ensures.writes.wrote clean (inv.kept early inside).0 (subst IsBookSchema (sym so_far.schema) schema) in
          let one : Wrote tree (entry_row Second e ∷ []) mid next = subst (λ n. Wrote n (entry_row Second e ∷ []) mid next) (ap second_tree so_far.schema) now in
          let inside_list : at < length entries = omega arith in
          let more : map (entry_row Second) (take (at + 1) entries) ≡ map (entry_row Second) (take at entries) ++ entry_row Second e ∷ [] = map_more (entry_row Second) entries at none inside_list in
          subst (λ l. Wrote tree l start next) (sym more) (wrote_more tree (map (entry_row Second) (take at entries)) (entry_row Second e) start mid next so_far one);
    }

pub returns-in_err-insert_bounded-clause-fault : goal.returns-in_err-insert_bounded-clause-fault
returns-in_err-insert_bounded-clause-fault g c clean inside fault =
    let mid = state g.S.Store c.loop-entry.transaction.conn.now in
    let entries = c.args.entries.now in
    let at = c.loop-entry.entry-index in
    let inv = c.loop-entry.invariant in
    let error = c.in_err-insert_bounded.field-0.0 in
    let early : HasCleanDisk mid = omega (arith, c.insert_bounded.ensures.writes.crash.clean) in
    let why : refusal_of error ≡ Database = search rules in
    let inside_list : at < length entries = omega arith in
    record {
      number = at;
      entry = get_or entries at none;
      is = slice_get-get_or entries at none inside_list;
      before = c.loop-entry.transaction.conn.now;
      written = λ schema. inv.wrote early inside schema;
      refused = (error, c.in_err-insert_bounded.ensures.told clean (inv.kept early inside).0, why);
    }
