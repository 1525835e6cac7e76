use Rattle.flat_items.proofs.Common.{Option, What, Sees, flat_of}
use Rattle.flat_items.proofs.flat.Flat.sees.Given as goal

abbrev pub invariant-outward : goal.invariant-outward
invariant-outward l = (what : Option What) → Sees (flat_of l.self).places l.name l.at what → Sees (flat_of l.self).places l.name l.number what
