use Rattle.mutation_sites.proofs.Common.{◌≡◌, drop, times}
use Rattle.mutation_sites.proofs.unused.is_among.Given as goal

abbrev pub invariant-loop-bit : goal.invariant-loop-bit
invariant-loop-bit l = times l.net l.bits ≡ times l.net (drop l.bit-index l.bits)
