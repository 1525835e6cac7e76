use Rattle.result_book.proofs.Common.{◌≡◌}
use Rattle.result_book.proofs.Keeping.{kept_first}
use Rattle.result_book.proofs.bounds.Bounds.without_given_up.Given as goal

-- it is done for the tests so far
abbrev pub invariant-loop-test : goal.invariant-loop-test
invariant-loop-test l = l.kept ≡ kept_first l.test l.limit l.initial.kept l.self
