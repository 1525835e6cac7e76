use Rattle.flat_items.proofs.Common.{Flat, Flattens, flat_of}
use Rattle.flat_items.proofs.flat.Flat.run.Given as goal

abbrev pub invariant-parts : goal.invariant-parts
invariant-parts l = (last : Flat) → Flattens l.modules l.left.items (flat_of l.self) last → Flattens l.modules l.fn.tasks.items (flat_of l.fn.self) last
