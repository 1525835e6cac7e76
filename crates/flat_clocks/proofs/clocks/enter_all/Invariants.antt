use Rattle.flat_clocks.proofs.Common.{◌≡◌, drop, flat_of, with_items, sources_in}
use Rattle.flat_clocks.proofs.clocks.enter_all.Given as goal

abbrev pub invariant-loop-item : goal.invariant-loop-item
invariant-loop-item l = with_items (flat_of l.flat).signals (flat_of l.flat).places (sources_in l.sources) (drop l.item-index l.items) ≡ with_items (flat_of l.flat).signals (flat_of l.flat).places (sources_in l.fn.sources) l.items
