use Rattle.elab_finish.proofs.Common.{◌≡◌, ◌<◌, ◌≤◌, ◌-◌, ℕ, slice_get, Some, Net, next_of, IsLooped, IsSettled}
use Rattle.elab_finish.proofs.left.has_looped.Given as goal

abbrev pub invariant-loop-k : goal.invariant-loop-k
invariant-loop-k l = record {
  settled : IsSettled (next_of l.builder) l.search.marks.items;
  from : l.first ≤ l.k;
  none : (i n : ℕ) → l.first ≤ i → i < l.k → slice_get l.bits i ≡ Some (Net n) → IsLooped l.builder n → ⊥;
}

abbrev pub decreases-loop-k : goal.decreases-loop-k
decreases-loop-k l = l.last - l.k
