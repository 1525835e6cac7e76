use Rattle.flat_instances.proofs.Common.{◌≡◌, drop, first_of, value_faults}
use Rattle.flat_instances.proofs.giving.first_value.Given as goal

abbrev pub invariant-loop-step : goal.invariant-loop-step
invariant-loop-step l = first_of l.first (value_faults (drop l.step-index l.steps)) ≡ first_of l.initial.first (value_faults l.steps)
