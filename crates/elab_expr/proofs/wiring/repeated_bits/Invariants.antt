use Rattle.elab_expr.proofs.Common.{◌≡◌, ◌*◌, ℕ, length, number, Nets, values, repeated, AllBelow, times}
use Rattle.elab_expr.proofs.wiring.repeated_bits.Given as goal

abbrev pub invariant-loop : goal.invariant-loop
invariant-loop l = record {
  is : l.found ≡ times l.counter l.bits;
  long : length l.found ≡ l.counter * length l.bits;
  value : (nets : Nets) → number (values nets l.found) ≡ repeated l.counter (length l.bits) (number (values nets l.bits));
  below : (n : ℕ) → AllBelow n l.bits → AllBelow n l.found;
}
