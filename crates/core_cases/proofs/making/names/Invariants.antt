use Rattle.std.proofs.Common.{◌≡◌, length}
use Rattle.core_cases.proofs.making.names.Given as goal

abbrev pub invariant-loop-test : goal.invariant-loop-test
invariant-loop-test l = length l.list ≡ l.test-counter
