use Rattle.gate_clauses.proofs.Common.{suc, arith}
use Rattle.gate_clauses.proofs.Models.{models-are}
use Rattle.gate_clauses.proofs.Pushing.{clauses-few}
use Rattle.gate_clauses.proofs.Settling.{is-miter}
use Rattle.gate_clauses.proofs.encode.miter.Goals as goal

pub push_one-requires-clause-number : goal.push_one-requires-clause-number
push_one-requires-clause-number c = rw c.in_ok-push_gates.ensures (omega (arith, (clauses-few (suc c.args.gates.now.free) c.args.gates.now.made).0, c.requires.few_gates))

pub push_one-requires-clause-room : goal.push_one-requires-clause-room
push_one-requires-clause-room c = rw c.in_ok-push_gates.ensures (omega (arith, (clauses-few (suc c.args.gates.now.free) c.args.gates.now.made).1, c.requires.few_gates))

pub returns-clause-models : goal.returns-clause-models
returns-clause-models c values = rw (c.in_ok-push_one.ensures, c.in_ok-push_gates.ensures) (models-are values c.args.gates.now c.args.literals.now c.len.ensures.ordered)

pub invariant_of-result : goal.invariant_of-result
invariant_of-result c =
    rw (c.in_ok-push_one.ensures, c.in_ok-push_gates.ensures, c.free.ensures.number, c.len.ensures.number, c.free-2.ensures.number)
    (record { made = is-miter c.args.gates.now c.args.literals.now c.free.ensures.few c.requires.few_gates c.requires.few_literals c.len.ensures.ordered c.requires.over })
