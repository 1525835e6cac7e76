use Rattle.elab_expr.proofs.Common.{◌≡◌, ℕ, pos, ◌-ℤ◌, length, number, Nets, values, window, bound_integer, AllBelow, bits_from}
use Rattle.elab_expr.proofs.wiring.window_bits.Given as goal

abbrev pub invariant-loop-k : goal.invariant-loop-k
invariant-loop-k l = record {
  is : l.found.items ≡ bits_from l.bits (bound_integer l.place -ℤ pos l.low) l.k;
  long : length l.found.items ≡ l.k;
  value : (nets : Nets) → number (values nets l.found.items) ≡ window (bound_integer l.place -ℤ pos l.low) l.k (number (values nets l.bits));
  below : (n : ℕ) → AllBelow n l.bits → AllBelow n l.found.items;
}
