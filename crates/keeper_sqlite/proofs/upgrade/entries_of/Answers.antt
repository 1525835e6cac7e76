use Rattle.keeper_sqlite.proofs.Common.{rules, arith, ◌≡◌, ◌<◌, ◌+◌, ◌∷◌, ◌++◌, [], take, length, map, refl, sym, ap, subst, ◌∙◌, IsErrOf, AllByRecursion, take_more, slice_get_read, First, Database}
use Rattle.keeper_sqlite.proofs.Common.{shown_entry, FitsTable}
use Rattle.keeper_sqlite.proofs.Adding.{fit_push}
use Rattle.keeper_sqlite.proofs.Lists.{map-push}
use Rattle.keeper_sqlite.proofs.upgrade.entries_of.Goals as goal

pub loop-row-preserved : goal.loop-row-preserved
loop-row-preserved c =
    let rows = c.args.rows.now in
    let at = c.loop-row.row-index in
    let entries = c.loop-row.entries.items in
    let e = c.in_ok-entry_of.field-0 in
    let item = c.row-item.result in
    let inv = c.loop-row.invariant in
    let found = c.in_ok-entry_of.ensures.found in
    let inside : at < length rows = omega arith in
    let more : take (at + 1) rows ≡ take at rows ++ item ∷ [] = take_more rows at item inside ∙ ap (λ x. take at rows ++ x ∷ []) (sym c.row-item.is) in
    record {
      shown = more ∙ ap (λ l. l ++ item ∷ []) inv.shown ∙ ap (λ r. map (shown_entry First) entries ++ r ∷ []) found.0 ∙ sym (map-push (shown_entry First) entries e) ∙ ap (map (shown_entry First)) (sym c.in_ok-push.ensures.items);
      fit = subst (AllByRecursion (FitsTable First)) (sym c.in_ok-push.ensures.items) (fit_push First entries e inv.fit found.1);
    }

pub returns-in_err-entry_of-clause-fault : goal.returns-in_err-entry_of-clause-fault
returns-in_err-entry_of-clause-fault c fault =
    let rows = c.args.rows.now in
    let at = c.loop-row.row-index in
    let item = c.row-item.result in
    let inside : at < length rows = omega arith in
    let why : IsErrOf c.entry_of.result Database = search rules in
    (at, item, slice_get_read rows _ at item refl inside c.row-item.is, c.entry_of.ensures.fault why)
