use Rattle.netlist_gates.proofs.Common.{◌+◌, List, length, refl, ap, ◌∙◌, arith, Bit, Register, q_bits, lits_of, laid_lits, variables}
use Rattle.netlist_gates.proofs.Ahead.{ahead-begun, ahead-register, register-laid}
use Rattle.netlist_gates.proofs.free.lay_registers.Goals as goal

pub loop-register-init : goal.loop-register-init
loop-register-init c = record { ahead = ahead-begun _ _ _ (q_bits c.args.registers.now) c.requires.below; long = refl }

pub lay_variables-requires-clause-below : goal.lay_variables-requires-clause-below
lay_variables-requires-clause-below c =
    let here = ahead-register (length c.args.table.now.items) c.args.first (lits_of c.args.table.now.items) c.args.registers.now c.loop-register.next (lits_of c.loop-register.table.items) c.loop-register.register-index c.register-item.result c.loop-register-test.true c.loop-register.invariant.ahead in
    rw (c.as_slice-bits.ensures, c.register-item.is, c.loop-register.invariant.long) here.below.0

pub lay_variables-requires-clause-few : goal.lay_variables-requires-clause-few
lay_variables-requires-clause-few c =
    let here = ahead-register (length c.args.table.now.items) c.args.first (lits_of c.args.table.now.items) c.args.registers.now c.loop-register.next (lits_of c.loop-register.table.items) c.loop-register.register-index c.register-item.result c.loop-register-test.true c.loop-register.invariant.ahead in
    let bits = ap (λ (b : List Bit). length b) (c.as_slice-bits.ensures ∙ ap (λ (p : Register). p.q) c.register-item.is) in
    omega (arith, here.bits, bits, c.requires.few)

pub loop-register-preserved : goal.loop-register-preserved
loop-register-preserved c =
    let bits = c.as_slice-bits.ensures ∙ ap (λ (p : Register). p.q) c.register-item.is in
    record {
      ahead = register-laid (length c.args.table.now.items) c.args.first (lits_of c.args.table.now.items) c.args.registers.now c.loop-register.next (lits_of c.loop-register.table.items) c.loop-register.register-index c.register-item.result (lits_of c.lay_variables.new.table.items) _ c.loop-register-test.true c.loop-register.invariant.ahead
          (c.lay_variables.ensures.laid ∙ ap (λ (b : List Bit). laid_lits (lits_of c.loop-register.table.items) b (variables c.loop-register.next (length b))) bits)
          (ap (λ (b : List Bit). c.loop-register.next + length b) bits);
      long = c.lay_variables.ensures.long ∙ c.loop-register.invariant.long;
    }
