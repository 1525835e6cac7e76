use Rattle.elab_finish.proofs.Common.{get_or}
use Rattle.elab_finish.proofs.Joined.{same_there}
use Rattle.elab_finish.proofs.Orders.{known_at, slots_step}
use Rattle.elab_finish.proofs.ordering.slots.Goals as goal

pub add_slot-requires-clause-known : goal.add_slot-requires-clause-known
add_slot-requires-clause-known c =
    let ks = c.args.declared.now in
    let k = c.loop-number.number-index in
    known_at c.args.builder.now ks k (get_or ks k 0) (same_there ks k 0 (get_or ks k 0) c.loop-number-test.true) c.requires.known c.loop-number-test.true

pub loop-number-preserved : goal.loop-number-preserved
loop-number-preserved c =
    let ks = c.args.declared.now in
    let k = c.loop-number.number-index in
    slots_step c.args.builder.now ks k (get_or ks k 0) c.loop-number.found.items c.add_slot.new.found.items (same_there ks k 0 (get_or ks k 0) c.loop-number-test.true) c.loop-number-test.true c.loop-number.invariant c.in_ok-add_slot.ensures
