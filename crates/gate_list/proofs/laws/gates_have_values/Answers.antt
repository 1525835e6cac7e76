use Rattle.gate_list.proofs.Laying.{have-values, one-value}
use Rattle.gate_list.proofs.laws.gates_have_values.Goals as goal

pub returns-clause-some : goal.returns-clause-some
returns-clause-some c = have-values

pub returns-clause-one : goal.returns-clause-one
returns-clause-one c = one-value
