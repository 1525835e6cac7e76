use Rattle.tb_checks.proofs.Common.{take, flat_map, names_of, IsFirst, event_faults}
use Rattle.tb_checks.proofs.controls.events_fault.Given as goal

abbrev pub invariant-loop-event : goal.invariant-loop-event
invariant-loop-event l = IsFirst (flat_map (event_faults (names_of l.scope)) (take l.event-index l.events)) l.found
