use Rattle.result_book.proofs.Common.{◌≡◌, drop, first_unnamed}
use Rattle.result_book.proofs.goal.Goal.unnamed.Given as goal

abbrev pub invariant-loop-number : goal.invariant-loop-number
invariant-loop-number l = first_unnamed l.count (drop l.number-index l.self.mutations) ≡ first_unnamed l.count l.self.mutations
