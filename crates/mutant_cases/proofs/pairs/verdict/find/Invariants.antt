use Rattle.equiv_test.specs.Jobs.{IsGoing}
use Rattle.mutant_cases.proofs.pairs.verdict.find.Given as goal

abbrev pub invariant-loop-turn : goal.invariant-loop-turn
invariant-loop-turn l = IsGoing l.job
