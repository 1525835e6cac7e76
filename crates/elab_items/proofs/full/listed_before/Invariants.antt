use Rattle.elab_items.proofs.Common.{◌≡◌, ◌≤◌, drop, widths_of, max_bits}
use Rattle.elab_items.specs.Full.{listed_before}
use Rattle.elab_items.proofs.full.listed_before.Given as goal

abbrev pub invariant-loop-item : goal.invariant-loop-item
invariant-loop-item l = record {
  same : listed_before (widths_of l.signals) l.bits (drop l.item-index l.items) ≡ listed_before (widths_of l.signals) 0 l.items;
  fits : l.bits ≤ max_bits;
}
