use Rattle.lrat_checker.proofs.Common.{◌<◌, drop, length, AreGuarded}
use Rattle.lrat_checker.proofs.guards.Guards.clear_list.Given as goal

abbrev pub invariant-loop-turn : goal.invariant-loop-turn
invariant-loop-turn l = AreGuarded (drop l.clauses l.store) l.self × (l.place < length l.self.lists.items)
