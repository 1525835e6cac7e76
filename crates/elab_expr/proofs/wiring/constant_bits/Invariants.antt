use Rattle.elab_expr.proofs.Common.{◌≡◌, ◌+◌, ◌-◌, ◌*◌, ◌<◌, ◌^◌, ◌++◌, ℕ, length, number, Nets, values, AllBelow, number_bits}
use Rattle.elab_expr.proofs.wiring.constant_bits.Given as goal

abbrev pub invariant-loop : goal.invariant-loop
invariant-loop l = record {
  is : l.bits.items ++ number_bits (l.width - l.counter) l.rest ≡ number_bits l.width l.value;
  long : length l.bits.items ≡ l.counter;
  small : l.rest < 2 ^ (l.width - l.counter);
  same : (nets : Nets) → number (values nets l.bits.items) + l.rest * 2 ^ l.counter ≡ l.value;
  below : (n : ℕ) → AllBelow n l.bits.items;
}
