use Rattle.keeper_sqlite.proofs.Common.{arith, shown_items, HasCleanDisk, state}
use Rattle.keeper_sqlite.proofs.Texts.{select_meta_text}
use Rattle.keeper_sqlite.proofs.Selects.{shows_meta, ok_unchanged, meta_plain}
use Rattle.keeper_sqlite.proofs.select.select_meta.Goals as goal

pub show_items-requires : goal.show_items-requires
show_items-requires g c clean = meta_plain (state g.S.Store c.args.connection.now) (c.requires clean)

pub returns-clause-found : goal.returns-clause-found
returns-clause-found g c clean =
    let old = state g.S.Store c.args.connection.now in
    let new = state g.S.Store c.show_items.new.connection in
    let early : HasCleanDisk old = omega (arith, c.show_items.ensures.crash.clean) in
    shows_meta (λ found. found.items) old new c.show_items.result (c.requires early) (λ is_open. (c.schema-sound.ensures.live is_open).0) (c.show_items.ensures.shown clean)

pub returns-clause-same : goal.returns-clause-same
returns-clause-same g c clean =
    let old = state g.S.Store c.args.connection.now in
    let new = state g.S.Store c.show_items.new.connection in
    let early : HasCleanDisk old = omega (arith, c.show_items.ensures.crash.clean) in
    ok_unchanged (λ rows. shown_items 0 rows.items) select_meta_text old new c.show_items.result (meta_plain old (c.requires early)) (c.show_items.ensures.shown clean)
