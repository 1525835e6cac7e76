use Rattle.elab_items.proofs.Common.{ℕ, Option, subst, IsLeft, flat_of, item_turns, max_turns}
use Rattle.elab_items.proofs.Turning.{after_one, past_here}
use Rattle.elab_items.proofs.turns.first_past.Goals as goal

pub returns-in-None-clause-past : goal.returns-in-None-clause-past
returns-in-None-clause-past c =
    let places = (flat_of c.args.flat.now).places in
    let item = c.index-items-place.result in
    let left = c.loop-place.left in
    let many = subst (λ (o : Option ℕ). IsLeft (item_turns places item) left o) c.in-None.is c.in_ok-item_left.ensures.left in
    past_here places c.args.items.now c.loop-place.place item max_turns left c.index-items-place.is c.loop-place-test.true c.loop-place.invariant.left many

pub loop-place-preserved : goal.loop-place-preserved
loop-place-preserved c =
    let places = (flat_of c.args.flat.now).places in
    let item = c.index-items-place.result in
    let left = c.loop-place.left in
    let one = subst (λ (o : Option ℕ). IsLeft (item_turns places item) left o) c.in-Some.is c.in_ok-item_left.ensures.left in
    record {
      left = after_one places c.args.items.now c.loop-place.place item max_turns left c.in-Some.rest c.index-items-place.is c.loop-place-test.true c.loop-place.invariant.left one;
      copies = c.in_ok-item_left.ensures.copies;
      waiting = c.loop-place.invariant.waiting;
      written = c.loop-place.invariant.written;
    }
