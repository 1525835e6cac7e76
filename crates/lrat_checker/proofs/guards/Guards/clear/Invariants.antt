use Rattle.lrat_checker.proofs.Common.{drop, AreGuarded}
use Rattle.lrat_checker.proofs.guards.Guards.clear.Given as goal

abbrev pub invariant-loop-l : goal.invariant-loop-l
invariant-loop-l l = AreGuarded (drop l.clauses l.store) l.self
