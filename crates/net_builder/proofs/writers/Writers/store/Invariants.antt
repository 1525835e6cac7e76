use Rattle.net_builder.proofs.Common.{◌≡◌, length, drop, AllBelow, writers_of, after_stores}
use Rattle.net_builder.proofs.writers.Writers.store.Given as goal

abbrev pub invariant-loop-bit : goal.invariant-loop-bit
invariant-loop-bit l = (after_stores (drop l.bit-index l.bits) (writers_of l.self) ≡ after_stores l.bits (writers_of l.initial.self)) × AllBelow (length l.self.table.items) (drop l.bit-index l.bits)
