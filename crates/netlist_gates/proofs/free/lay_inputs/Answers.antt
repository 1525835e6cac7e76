use Rattle.netlist_gates.proofs.Common.{◌+◌, List, length, refl, ap, ◌∙◌, arith, Bit, Port, bits_at, lits_of, laid_lits, variables}
use Rattle.netlist_gates.proofs.Ahead.{ahead-begun, ahead-port, port-laid}
use Rattle.netlist_gates.proofs.free.lay_inputs.Goals as goal

pub loop-port-init : goal.loop-port-init
loop-port-init c = record { ahead = ahead-begun _ _ _ (bits_at c.args.ports.now) c.requires.below; long = refl }

pub lay_variables-requires-clause-below : goal.lay_variables-requires-clause-below
lay_variables-requires-clause-below c =
    let here = ahead-port (length c.args.table.now.items) c.args.first (lits_of c.args.table.now.items) c.args.ports.now c.loop-port.next (lits_of c.loop-port.table.items) c.loop-port.port-index c.port-item.result c.loop-port-test.true c.loop-port.invariant.ahead in
    rw (c.as_slice-bits.ensures, c.port-item.is, c.loop-port.invariant.long) here.below.0

pub lay_variables-requires-clause-few : goal.lay_variables-requires-clause-few
lay_variables-requires-clause-few c =
    let here = ahead-port (length c.args.table.now.items) c.args.first (lits_of c.args.table.now.items) c.args.ports.now c.loop-port.next (lits_of c.loop-port.table.items) c.loop-port.port-index c.port-item.result c.loop-port-test.true c.loop-port.invariant.ahead in
    let bits = ap (λ (b : List Bit). length b) (c.as_slice-bits.ensures ∙ ap (λ (p : Port). p.bits) c.port-item.is) in
    omega (arith, here.bits, bits, c.requires.few)

pub loop-port-preserved : goal.loop-port-preserved
loop-port-preserved c =
    let bits = c.as_slice-bits.ensures ∙ ap (λ (p : Port). p.bits) c.port-item.is in
    record {
      ahead = port-laid (length c.args.table.now.items) c.args.first (lits_of c.args.table.now.items) c.args.ports.now c.loop-port.next (lits_of c.loop-port.table.items) c.loop-port.port-index c.port-item.result (lits_of c.lay_variables.new.table.items) _ c.loop-port-test.true c.loop-port.invariant.ahead
          (c.lay_variables.ensures.laid ∙ ap (λ (b : List Bit). laid_lits (lits_of c.loop-port.table.items) b (variables c.loop-port.next (length b))) bits)
          (ap (λ (b : List Bit). c.loop-port.next + length b) bits);
      long = c.lay_variables.ensures.long ∙ c.loop-port.invariant.long;
    }
