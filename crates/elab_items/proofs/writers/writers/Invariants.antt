use Rattle.elab_items.proofs.Common.{◌≡◌, ◌↔◌, ℕ, ◌<◌, false, IsTrue, get_or, length, HasWriter}
use Rattle.elab_items.proofs.writers.writers.Given as goal

abbrev pub invariant-loop-number : goal.invariant-loop-number
invariant-loop-number l = record {
  count : length l.written.items ≡ l.number;
  tells : (k : ℕ) → k < length l.written.items → IsTrue (get_or l.written.items k false) ↔ HasWriter l.builder l.inputs k;
}
