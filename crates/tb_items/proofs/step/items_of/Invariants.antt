use Rattle.tb_items.proofs.Common.{◌≡◌, ◌++◌, drop, flat_map, names_of, step_items}
use Rattle.tb_items.proofs.step.items_of.Given as goal

abbrev pub invariant-loop-step : goal.invariant-loop-step
invariant-loop-step l = l.items.items ++ flat_map (step_items (names_of l.scope) l.design l.clock) (drop l.step-index l.steps) ≡ flat_map (step_items (names_of l.scope) l.design l.clock) l.steps
