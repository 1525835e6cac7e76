use Rattle.process_latches.proofs.Common.{List, add-one, arith, subst, sym, take, flat_map, names_of, Refusal, IsFirst, flat_take, event_refusals}
use Rattle.process_latches.proofs.process.events_refusal.Goals as goal

pub loop-event-preserved : goal.loop-event-preserved
loop-event-preserved c =
    let g = event_refusals (names_of c.args.scope.now) in
    let xs = c.args.events.now in
    rw add-one (subst (λ (l : List Refusal). IsFirst l c.earlier-found.result) (sym (flat_take g xs c.loop-event.event-index c.event-item.result c.event-item.is (omega arith))) (c.earlier-found.ensures (flat_map g (take c.loop-event.event-index xs)) (g c.event-item.result) c.loop-event.invariant c.event_refusal.ensures))
