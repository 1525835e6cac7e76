use Rattle.std.proofs.Common.{◌≡◌, length}
use Rattle.core_cases.proofs.making.places.Given as goal

abbrev pub invariant-loop-mutation : goal.invariant-loop-mutation
invariant-loop-mutation l = length l.list ≡ l._mutation
