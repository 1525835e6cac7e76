use Rattle.net_builder.proofs.Common.{◌≡◌, fresh_bits}
use Rattle.net_builder.proofs.builder.fresh.Given as goal

abbrev pub invariant-loop-k : goal.invariant-loop-k
invariant-loop-k l = l.bits.items ≡ fresh_bits l.from l.k
