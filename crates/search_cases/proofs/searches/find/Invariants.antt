use Rattle.std.proofs.Common.{◌≡◌}
use Rattle.sat_solver.specs.Found.{IsRunning}
use Rattle.search_cases.proofs.searches.find.Given as goal

abbrev pub invariant-loop-turn : goal.invariant-loop-turn
invariant-loop-turn g l = IsRunning l.search × (l.search.limit ≡ l.initial.search.limit)
