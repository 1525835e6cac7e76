use Rattle.flat_items.proofs.Common.{◌≡◌, drop, add_all, repeated, flat_of}
use Rattle.flat_items.proofs.flat.Flat.list_repeated.Given as goal

abbrev pub invariant-loop-number : goal.invariant-loop-number
invariant-loop-number l = add_all (flat_of l.self) (repeated l.modules l.number (drop l.number l.modules)) ≡ add_all (flat_of l.initial.self) (repeated l.modules 0 l.modules)
