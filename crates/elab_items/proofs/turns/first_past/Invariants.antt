use Rattle.elab_items.proofs.Common.{◌≡◌, flat_of, AreCopies, max_turns}
use Rattle.elab_items.proofs.Turning.{LeftAfter}
use Rattle.elab_items.proofs.turns.first_past.Given as goal

abbrev pub invariant-loop-place : goal.invariant-loop-place
invariant-loop-place l = record {
  left : LeftAfter (flat_of l.flat).places l.items l.place max_turns l.left;
  copies : AreCopies (flat_of l.flat).places l.desk.scopes.items;
  waiting : l.desk.waiting ≡ l.initial.desk.waiting;
  written : l.desk.written.items ≡ l.initial.desk.written.items;
}
