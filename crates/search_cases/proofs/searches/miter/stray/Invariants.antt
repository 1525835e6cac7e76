use Rattle.std.proofs.Common.{take}
use Rattle.clause_store.specs.Clauses.{AreOver}
use Rattle.search_cases.proofs.searches.miter.stray.Given as goal

abbrev pub invariant-loop-place : goal.invariant-loop-place
invariant-loop-place l = AreOver l.count (take l.place l.store)
