use Rattle.sat_solver.proofs.Common.{◌≡◌, take, map, number_of}
use Rattle.sat_solver.proofs.part.numbers_of.Given as goal

abbrev pub invariant-loop-hint : goal.invariant-loop-hint
invariant-loop-hint l = l.named.items ≡ map (number_of l.numbers) (take l.hint-index l.hints)
