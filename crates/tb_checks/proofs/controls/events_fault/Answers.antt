use Rattle.tb_checks.proofs.Common.{refl, add-one, arith, names_of, event_faults}
use Rattle.tb_checks.proofs.Firsts.{more}
use Rattle.tb_checks.proofs.controls.events_fault.Goals as goal

pub loop-event-init : goal.loop-event-init
loop-event-init c = refl

pub loop-event-preserved : goal.loop-event-preserved
loop-event-preserved c = rw add-one (more (event_faults (names_of c.args.scope.now)) c.args.events.now c.loop-event.event-index c.event-item.result c.loop-event.found c.event_fault.result c.earlier-found.result c.event-item.is (omega arith) c.loop-event.invariant c.event_fault.ensures c.earlier-found.ensures.joined)
