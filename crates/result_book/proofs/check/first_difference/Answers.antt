use Rattle.result_book.proofs.Common.{◌≡◌, [], Some, length, slice_get, sym, ◌∙◌, ap, arith, refl, false≢true, slice_get_read}
use Rattle.result_book.proofs.Differing.{differ_past, same_all, same_more}
use Rattle.result_book.proofs.check.first_difference.Goals as goal

pub returns-then-not-has_item-clause-differ : goal.returns-then-not-has_item-clause-differ
returns-then-not-has_item-clause-differ c is =
    let derived : slice_get c.args.derived.now c.loop-place.place ≡ Some c.as_slice.result.now = slice_get_read c.args.derived.now (length c.args.derived.now) c.loop-place.place c.index-derived-place.result refl c.loop-place-test.true c.index-derived-place.is ∙ ap Some (sym c.as_slice.ensures) in
    false≢true (c.if-not-has_item.ensures.1 (is ∙ derived))

pub loop-place-preserved : goal.loop-place-preserved
loop-place-preserved c =
    let derived : slice_get c.args.derived.now c.loop-place.place ≡ Some c.as_slice.result.now = slice_get_read c.args.derived.now (length c.args.derived.now) c.loop-place.place c.index-derived-place.result refl c.loop-place-test.true c.index-derived-place.is ∙ ap Some (sym c.as_slice.ensures) in
    same_more c.args.kept.now c.args.derived.now c.loop-place.place c.as_slice.result.now (c.if-not-has_item.ensures.0 refl) derived c.loop-place.invariant

pub returns-then-derived-kept-clause-differ : goal.returns-then-derived-kept-clause-differ
returns-then-derived-kept-clause-differ c = differ_past c.args.kept.now c.args.derived.now [] (omega (arith, c.if-derived-kept.true))

pub returns-else-derived-kept-clause-within : goal.returns-else-derived-kept-clause-within
returns-else-derived-kept-clause-within c = same_all c.args.kept.now c.args.derived.now c.loop-place.place (omega arith) (omega arith) c.loop-place.invariant

pub returns-else-derived-kept-clause-same : goal.returns-else-derived-kept-clause-same
returns-else-derived-kept-clause-same c = same_all c.args.kept.now c.args.derived.now c.loop-place.place (omega arith) (omega arith) c.loop-place.invariant

pub returns-else-derived-kept-clause-differ : goal.returns-else-derived-kept-clause-differ
returns-else-derived-kept-clause-differ c = same_all c.args.kept.now c.args.derived.now c.loop-place.place (omega arith) (omega arith) c.loop-place.invariant
