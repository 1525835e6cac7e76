use Rattle.flat_clocks.proofs.Common.{◌≡◌, drop, flat_of, first_clock}
use Rattle.flat_clocks.proofs.clocks.first_clock.Given as goal

abbrev pub invariant-loop-item : goal.invariant-loop-item
invariant-loop-item l = first_clock (flat_of l.flat).places (drop l.item-index l.items) ≡ first_clock (flat_of l.flat).places l.items
