use Rattle.elab_items.proofs.Common.{◌≡◌, length, flat_of, AreCopies}
use Rattle.elab_items.proofs.desk.copy_scopes.Given as goal

abbrev pub invariant-loop-next : goal.invariant-loop-next
invariant-loop-next l = record {
  count : length l.scopes.items ≡ l.next;
  copies : AreCopies (flat_of l.flat).places l.scopes.items;
}
