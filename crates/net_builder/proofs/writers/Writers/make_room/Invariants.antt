use Rattle.net_builder.proofs.Common.{◌≡◌, ◌≤◌, length, ◌+◌, ◌-◌, vec_len, writers_of}
use Rattle.net_builder.proofs.writers.Writers.make_room.Given as goal

abbrev pub invariant-loop-self : goal.invariant-loop-self
invariant-loop-self l = (writers_of l.self ≡ writers_of l.initial.self) × (length l.initial.self.table.items ≤ length l.self.table.items)

abbrev pub decreases-loop-self : goal.decreases-loop-self
decreases-loop-self l = l.net + 1 - vec_len l.self.table
