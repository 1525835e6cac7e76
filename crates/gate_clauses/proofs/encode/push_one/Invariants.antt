use Rattle.gate_clauses.proofs.Common.{◌≡◌, take, open_lits}
use Rattle.gate_clauses.proofs.encode.push_one.Given as goal

abbrev pub invariant-loop-literal : goal.invariant-loop-literal
invariant-loop-literal l = l.clause.items ≡ open_lits (take l.literal-index l.literals)
