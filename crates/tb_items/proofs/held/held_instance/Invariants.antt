use Rattle.tb_items.proofs.Common.{◌≡◌, drop, held_instance}
use Rattle.tb_items.proofs.held.held_instance.Given as goal

abbrev pub invariant-loop-step : goal.invariant-loop-step
invariant-loop-step l = held_instance l.design (drop l.step-index l.steps) ≡ held_instance l.design l.steps
