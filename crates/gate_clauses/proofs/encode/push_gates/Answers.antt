use Rattle.gate_clauses.proofs.Common.{◌≡◌, ◌+◌, ◌<◌, suc, pos, take, length, get_or, ap, arith, ◌∙◌, w32, rules, FitsSigned, to_z-of_z, length-take}
use Rattle.std.proofs.lemmas.Option.{get_or_from_slice_get}
use Rattle.gate_clauses.proofs.Pushing.{clauses-few, variable-pushed, ordered-at, reads-more}
use Rattle.gate_clauses.proofs.encode.push_gates.Goals as goal

pub push_gate-requires-clause-number : goal.push_gate-requires-clause-number
push_gate-requires-clause-number c =
    let few = clauses-few (suc c.args.gates.now.free) (take c.loop-number.number c.args.gates.now.made) in
    rw c.loop-number.invariant (omega (arith, few.0, length-take c.loop-number.number c.args.gates.now.made, c.requires.few))

pub push_gate-requires-clause-room : goal.push_gate-requires-clause-room
push_gate-requires-clause-room c =
    let few = clauses-few (suc c.args.gates.now.free) (take c.loop-number.number c.args.gates.now.made) in
    rw c.loop-number.invariant (omega (arith, few.1, length-take c.loop-number.number c.args.gates.now.made, c.requires.few))

pub push_gate-requires-clause-reads : goal.push_gate-requires-clause-reads
push_gate-requires-clause-reads c =
    let at : get_or c.args.gates.now.made c.loop-number.number c.gate.result ≡ c.gate.result = get_or_from_slice_get c.args.gates.now.made c.loop-number.number c.gate.result c.gate.result c.gate.ensures in
    let within : c.loop-number.number < length c.args.gates.now.made = omega (arith, c.loop-number-test.true, c.len-number-end.ensures.number) in
    let reads = ordered-at c.args.gates.now.free c.args.gates.now.made c.loop-number.number c.gate.result c.len-number-end.ensures.ordered within in
    reads-more (c.args.gates.now.free + c.loop-number.number) 2147483647 c.gate.result (omega (arith, within, c.free-first.ensures.few, c.requires.few)) (rw at at reads)

pub loop-number-preserved : goal.loop-number-preserved
loop-number-preserved c =
    let at : get_or c.args.gates.now.made c.loop-number.number c.gate.result ≡ c.gate.result = get_or_from_slice_get c.args.gates.now.made c.loop-number.number c.gate.result c.gate.result c.gate.ensures in
    let within : c.loop-number.number < length c.args.gates.now.made = omega (arith, c.loop-number-test.true, c.len-number-end.ensures.number) in
    let number : c.free-first.result + 1 + c.loop-number.number ≡ suc c.args.gates.now.free + c.loop-number.number = omega (arith, c.free-first.ensures.number) in
    let fits : FitsSigned w32 c.literal_of.result = search rules in
    variable-pushed (suc c.args.gates.now.free) c.loop-number.number c.args.gates.now.made c.gate.result _ c.loop-number.store c.push_gate.new.store c.in_ok-push_gate.ensures c.loop-number.invariant
    (to_z-of_z w32 c.literal_of.result fits ∙ (c.literal_of.ensures ∙ ap pos number)) within at
