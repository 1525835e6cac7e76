use Rattle.elab_finish.proofs.Common.{◌≡◌, ◌<◌, ℕ, slice_get, Some, Left, next_of, IsLeftLooped, IsSettled}
use Rattle.elab_finish.proofs.left.first_looped.Given as goal

abbrev pub invariant-loop-left : goal.invariant-loop-left
invariant-loop-left l = record {
  settled : IsSettled (next_of l.builder) l.search.marks.items;
  none : (i : ℕ) (x : Left) → i < l.left-index → slice_get l.lefts i ≡ Some x → IsLeftLooped l.builder x → ⊥;
}
