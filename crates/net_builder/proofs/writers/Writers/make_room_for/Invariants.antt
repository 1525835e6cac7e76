use Rattle.net_builder.proofs.Common.{◌≡◌, ◌≤◌, ℕ, length, drop, AllBelow, writers_of}
use Rattle.net_builder.proofs.writers.Writers.make_room_for.Given as goal

abbrev pub invariant-loop-bit : goal.invariant-loop-bit
invariant-loop-bit l = ((n : ℕ) → length l.self.table.items ≤ n → AllBelow n (drop l.bit-index l.bits) → AllBelow n l.bits) × (writers_of l.self ≡ writers_of l.initial.self)
