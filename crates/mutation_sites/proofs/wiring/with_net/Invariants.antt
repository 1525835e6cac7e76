use Rattle.mutation_sites.proofs.Common.{◌≡◌, ◌++◌, map, drop, replaced}
use Rattle.mutation_sites.proofs.wiring.with_net.Given as goal

abbrev pub invariant-loop-bit : goal.invariant-loop-bit
invariant-loop-bit l = l.items.items ++ map (replaced l.net l.new) (drop l.bit-index l.bits) ≡ map (replaced l.net l.new) l.bits
