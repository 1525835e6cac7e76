use Rattle.process_latches.proofs.Common.{take, flat_map, names_of, IsFirst, event_refusals}
use Rattle.process_latches.proofs.process.events_refusal.Given as goal

abbrev pub invariant-loop-event : goal.invariant-loop-event
invariant-loop-event l = IsFirst (flat_map (event_refusals (names_of l.scope)) (take l.event-index l.events)) l.found
