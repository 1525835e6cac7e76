use Rattle.keeper_sqlite.proofs.Common.{◌+◌, ◌↔◌, length, RisesFrom}
use Rattle.keeper_sqlite.proofs.read.are_rising.Given as goal

abbrev pub invariant-loop-rest : goal.invariant-loop-rest
invariant-loop-rest l = RisesFrom (l.last + 1) l.rest ↔ RisesFrom 0 l.entries

abbrev pub decreases-loop-rest : goal.decreases-loop-rest
decreases-loop-rest l = length l.rest
