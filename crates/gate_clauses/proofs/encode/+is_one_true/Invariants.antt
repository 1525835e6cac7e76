use Rattle.gate_clauses.proofs.Common.{length}
use Rattle.gate_clauses.proofs.encode.+is_one_true.Given as goal

abbrev pub decreases-is_one_true : goal.decreases-is_one_true
decreases-is_one_true l = length l.literals.now
