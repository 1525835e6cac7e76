use Rattle.gate_clauses.proofs.Common.{◌≡◌, suc, take, clauses_from}
use Rattle.gate_clauses.proofs.encode.push_gates.Given as goal

abbrev pub invariant-loop-number : goal.invariant-loop-number
invariant-loop-number l = l.store ≡ clauses_from (suc l.gates.free) (take l.number l.gates.made)
