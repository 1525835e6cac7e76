use Rattle.vlog_token.proofs.Common.{◌≡◌, ◌++◌, map, sym, ap, ◌∙◌, subst, arith, place_moved, seen, tokens_in}
use Rattle.vlog_token.proofs.ScanLemmas.{column_fits, line_fits, one_piece_more, Scanned}
use Rattle.vlog_token.proofs.scan.tokens.Goals as goal

pub moved-span-requires-clause-col : goal.moved-span-requires-clause-col
moved-span-requires-clause-col c =
    let cut = c.in-Ok.ensures in
    let fits = column_fits c.args.file c.args.text.now (map seen c.loop-rest.tokens.items) c.loop-rest.span c.loop-rest.rest.now c.in-Ok.cut.text.now c.in-Ok.cut.rest.now c.requires c.loop-rest.invariant cut.parts in
    omega (arith, fits, c.as_bytes.ensures.len)

pub moved-span-requires-clause-line : goal.moved-span-requires-clause-line
moved-span-requires-clause-line c =
    let cut = c.in-Ok.ensures in
    let fits = line_fits c.args.file c.args.text.now (map seen c.loop-rest.tokens.items) c.loop-rest.span c.loop-rest.rest.now c.in-Ok.cut.text.now c.in-Ok.cut.rest.now c.requires c.loop-rest.invariant cut.parts in
    omega (arith, fits, c.as_bytes.ensures.len)

pub loop-rest-preserved : goal.loop-rest-preserved
loop-rest-preserved c =
    let cut = c.in-Ok.ensures in
    let rest = c.in-Ok.cut.rest.now in
    let tokens = map seen c.loop-rest.tokens.items in
    let added = tokens ++ tokens_in c.in-Ok.cut.kind c.in-Ok.cut.text.now c.loop-rest.span in
    let is_added : map seen c.add_token.new.tokens.items ≡ added = c.in_ok-add_token.ensures in
    let place = c.moved-span.ensures ∙ ap (place_moved c.loop-rest.span) c.as_bytes.ensures.value in
    subst (λ ts. Scanned c.args.file c.args.text.now ts c.moved-span.result rest) (sym is_added)
    (subst (λ at. Scanned c.args.file c.args.text.now added at rest) (sym place)
    (one_piece_more c.args.file c.args.text.now tokens c.loop-rest.span c.loop-rest.rest.now c.in-Ok.cut.text.now rest c.in-Ok.cut.kind c.loop-rest.invariant cut.parts cut.here cut.utf8))
