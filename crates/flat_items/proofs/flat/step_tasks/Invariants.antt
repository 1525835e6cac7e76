use Rattle.flat_items.proofs.Common.{◌≡◌, tasks_of}
use Rattle.flat_items.proofs.flat.step_tasks.Given as goal

abbrev pub invariant-loop-step : goal.invariant-loop-step
invariant-loop-step l = l.tasks.items ≡ tasks_of l.place l.yielded
