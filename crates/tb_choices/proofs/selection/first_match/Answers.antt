use Rattle.tb_choices.proofs.Common.{arith, names_of, store_of, Matching}
use Rattle.tb_choices.proofs.Labels.{labels_whole_at, labels_within_at}
use Rattle.tb_choices.proofs.Matches.{item_hit, item_miss, items_end}
use Rattle.tb_choices.proofs.selection.first_match.Goals as goal

pub one_matches-requires-clause-whole : goal.one_matches-requires-clause-whole
one_matches-requires-clause-whole c = labels_whole_at (names_of c.args.moment.now.scope.now) c.args.items.now c.loop-number.number c.index-items-number.result c.as_slice.result.now c.index-items-number.is c.loop-number-test.true c.as_slice.ensures c.requires.whole

pub one_matches-requires-clause-within : goal.one_matches-requires-clause-within
one_matches-requires-clause-within c = labels_within_at (names_of c.args.moment.now.scope.now) c.args.size c.args.items.now c.loop-number.number c.index-items-number.result c.as_slice.result.now c.index-items-number.is c.loop-number-test.true c.as_slice.ensures c.requires.within

pub returns-then-branch : goal.returns-then-branch
returns-then-branch c =
    let m : Matching = record { names = names_of c.args.moment.now.scope.now; phase = c.args.moment.now.phase; kind = c.args.kind; store = store_of c.args.moment.now.store.now; size = c.args.size } in
    item_hit m c.args.value c.args.items.now c.loop-number.number c.index-items-number.result c.as_slice.result.now c.in_ok-one_matches.field-0 c.loop-number.words c.one_matches.new.words _ c.index-items-number.is c.loop-number-test.true c.as_slice.ensures c.in_ok-one_matches.ensures c.if-branch.true c.loop-number.invariant

pub loop-number-preserved : goal.loop-number-preserved
loop-number-preserved c =
    let m : Matching = record { names = names_of c.args.moment.now.scope.now; phase = c.args.moment.now.phase; kind = c.args.kind; store = store_of c.args.moment.now.store.now; size = c.args.size } in
    item_miss m c.args.value c.args.items.now c.loop-number.number c.index-items-number.result c.as_slice.result.now c.in_ok-one_matches.field-0 c.loop-number.words c.one_matches.new.words _ c.index-items-number.is c.loop-number-test.true c.as_slice.ensures c.in_ok-one_matches.ensures c.if-branch.false c.loop-number.invariant

pub returns : goal.returns
returns c =
    let m : Matching = record { names = names_of c.args.moment.now.scope.now; phase = c.args.moment.now.phase; kind = c.args.kind; store = store_of c.args.moment.now.store.now; size = c.args.size } in
    items_end m c.args.value c.args.items.now c.loop-number.number c.loop-number.words _ (omega arith) c.loop-number.invariant
