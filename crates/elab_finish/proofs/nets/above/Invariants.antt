use Rattle.elab_finish.proofs.Common.{◌≡◌, ◌<◌, ◌≤◌, ◌^◌, ℕ, slice_get, Some, Net}
use Rattle.elab_finish.proofs.nets.above.Given as goal

abbrev pub invariant-loop-bit : goal.invariant-loop-bit
invariant-loop-bit l = record { bits : (i n : ℕ) → i < l.bit-index → slice_get l.bits i ≡ Some (Net n) → n < l.limit; least : l.least ≤ l.limit; few : l.limit ≤ 2 ^ 32 }
