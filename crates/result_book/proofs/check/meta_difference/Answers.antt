use Rattle.result_book.proofs.Common.{refl}
use Rattle.result_book.proofs.Differing.{meta_differ, meta_same}
use Rattle.result_book.proofs.check.meta_difference.Goals as goal

pub returns-in-None : goal.returns-in-None
returns-in-None c =
    let same = rw c.in-None.is at c.in_ok-compare.ensures in
    meta_same c.args.book.now.meta c.args.campaign.now.meta c.as_slice-kept.result.now c.as_slice-derived.result.now c.as_slice-kept.ensures c.as_slice-derived.ensures (c.if-not-is_first.ensures.0 refl) c.requires.fit.format same

pub returns-in-Some : goal.returns-in-Some
returns-in-Some c =
    let differ = rw c.in-Some.is at c.in_ok-compare.ensures in
    meta_differ c.args.book.now.meta c.args.campaign.now.meta c.as_slice-kept.result.now c.as_slice-derived.result.now c.in-Some.found.place c.in-Some.found.old c.in-Some.found.new c.as_slice-kept.ensures c.as_slice-derived.ensures (c.if-not-is_first.ensures.0 refl) c.requires.fit.format differ
