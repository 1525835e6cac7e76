use Rattle.case_arms.proofs.Common.{add-one, arith, take, flat_map, names_of, wrong, labels_in, labels_nil, labels_within_at}
use Rattle.std.proofs.lemmas.List.{take_all}
use Rattle.elab_proc.proofs.Lists.{flat_take}
use Rattle.case_arms.proofs.Values.{named_item}
use Rattle.case_arms.proofs.named.add_all_named.Goals as goal

pub add_named-requires-clause-whole : goal.add_named-requires-clause-whole
add_named-requires-clause-whole c = rw c.as_slice.ensures (labels_nil (wrong (names_of c.args.scope.now)) c.args.items.now c.loop-item.item-index c.item-item.result c.item-item.is (omega arith) c.requires.whole)

pub add_named-requires-clause-within : goal.add_named-requires-clause-within
add_named-requires-clause-within c = rw c.as_slice.ensures (labels_within_at (names_of c.args.scope.now) c.args.size c.args.items.now c.loop-item.item-index c.item-item.result c.item-item.is (omega arith) c.requires.within)

pub loop-item-preserved : goal.loop-item-preserved
loop-item-preserved c = λ s of v. rw add-one (named_item s v (flat_map labels_in (take c.loop-item.item-index c.args.items.now)) (labels_in c.item-item.result) _ _ _ _ (flat_take labels_in c.args.items.now c.loop-item.item-index c.item-item.result c.item-item.is (omega arith)) (c.loop-item.invariant s of v) ((rw c.as_slice.ensures at c.in_ok-add_named.ensures) s of v))

pub returns : goal.returns
returns c =
    let whole = take_all c.loop-item.item-index c.args.items.now (omega arith) in
    λ s of v. (rw whole at c.loop-item.invariant) s of v
