use Rattle.pair_gates.proofs.Common.{◌++◌, List, ap, ◌∙◌, Bit, Register, lits_of, bits_lits}
use Rattle.pair_gates.proofs.Reading.{next-read}
use Rattle.pair_gates.proofs.pair.add_next.Goals as goal

pub loop-register-preserved : goal.loop-register-preserved
loop-register-preserved c =
    next-read (lits_of c.args.lits.now) c.loop-register.row.items c.read.new.row.items c.args.registers.now c.loop-register.register-index c.register-item.result c.loop-register-test.true
    (c.in_ok-read.ensures ∙ ap (λ (b : List Bit). c.loop-register.row.items ++ bits_lits (lits_of c.args.lits.now) b) (c.as_slice.ensures ∙ ap (λ (r : Register). r.d) c.register-item.is))
    ∙ c.loop-register.invariant
