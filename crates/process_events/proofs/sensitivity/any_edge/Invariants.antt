use Rattle.std.proofs.Common.{◌≡◌, take}
use Rattle.process_events.specs.Events.{any_edge}
use Rattle.process_events.proofs.sensitivity.any_edge.Given as goal

abbrev pub invariant-loop-event : goal.invariant-loop-event
invariant-loop-event l = l.found ≡ any_edge (take l.event-index l.events)
