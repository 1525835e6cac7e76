use Rattle.std.proofs.Common.{take}
use Rattle.clause_store.specs.Clauses.{AreOver}
use Rattle.search_cases.proofs.lemmas.are_over.Given as goal

abbrev pub invariant-loop-place : goal.invariant-loop-place
invariant-loop-place l = AreOver l.count (take l.place l.clauses)
