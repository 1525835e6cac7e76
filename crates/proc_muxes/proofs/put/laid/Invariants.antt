use Rattle.proc_muxes.proofs.Common.{◌≡◌, ◌-◌, pos, ◌+ℤ◌, drop, length, bound_integer, Vector, bits_from, written}
use Rattle.proc_muxes.proofs.put.laid.Given as goal

abbrev pub invariant-loop-k : goal.invariant-loop-k
invariant-loop-k l = record {
  long : length l.found.items ≡ length l.old;
  same : (v : Vector) → v.low ≡ l.low → v.width ≡ length l.old → written l.found.items (bits_from v (bound_integer l.base +ℤ pos l.k) (length l.bits - l.k)) (drop l.k l.bits) ≡ written l.old (bits_from v (bound_integer l.base) (length l.bits)) l.bits;
}
