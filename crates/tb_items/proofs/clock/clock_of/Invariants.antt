use Rattle.tb_items.proofs.Common.{◌≡◌, drop, names_of, clock_of}
use Rattle.tb_items.proofs.clock.clock_of.Given as goal

abbrev pub invariant-loop-step : goal.invariant-loop-step
invariant-loop-step l = clock_of (names_of l.scope) (drop l.step-index l.steps) ≡ clock_of (names_of l.scope) l.steps
