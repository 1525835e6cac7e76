use Rattle.elab_lefts.proofs.Common.{◌≡◌, take, flat_map, flat_of, AreCopies, item_lefts}
use Rattle.elab_lefts.proofs.items.lefts_of.Given as goal

abbrev pub invariant-loop-item : goal.invariant-loop-item
invariant-loop-item l = record {
  lists : l.lefts.items ≡ flat_map (item_lefts (flat_of l.flat).signals (flat_of l.flat).places) (take l.item-index (flat_of l.flat).items);
  copies : AreCopies (flat_of l.flat).places l.scopes.items;
}
