use Rattle.flat_items.proofs.Common.{◌≡◌, ◌++◌, vec_len}
use Rattle.flat_items.proofs.walk.put.Given as goal

abbrev pub invariant-loop-task : goal.invariant-loop-task
invariant-loop-task l = l.tasks.items ++ l.left.items ≡ l.initial.tasks.items ++ l.initial.left.items

abbrev pub decreases-loop-task : goal.decreases-loop-task
decreases-loop-task l = vec_len l.tasks
