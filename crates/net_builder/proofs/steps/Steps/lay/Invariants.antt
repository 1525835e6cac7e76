use Rattle.net_builder.proofs.Common.{◌≡◌, ◌≤◌, ◌^◌, length, ◌+◌, ◌-◌, vec_len, next_in}
use Rattle.net_builder.proofs.steps.Steps.lay.Given as goal

abbrev pub invariant-loop-self : goal.invariant-loop-self
invariant-loop-self l = (next_in l.self-inside.table.items ≡ next_in l.initial.self-inside.table.items) × (length l.self-inside.table.items ≤ 2 ^ 32)

abbrev pub decreases-loop-self : goal.decreases-loop-self
decreases-loop-self l = l.net + 1 - vec_len l.self-inside.table
