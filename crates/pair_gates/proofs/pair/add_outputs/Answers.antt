use Rattle.pair_gates.proofs.Common.{◌++◌, List, ap, ◌∙◌, Bit, Port, lits_of, bits_lits}
use Rattle.pair_gates.proofs.Reading.{output-read}
use Rattle.pair_gates.proofs.pair.add_outputs.Goals as goal

pub loop-port-preserved : goal.loop-port-preserved
loop-port-preserved c =
    output-read (lits_of c.args.lits.now) c.loop-port.row.items c.read.new.row.items c.args.ports.now c.loop-port.port-index c.port-item.result c.loop-port-test.true
    (c.in_ok-read.ensures ∙ ap (λ (b : List Bit). c.loop-port.row.items ++ bits_lits (lits_of c.args.lits.now) b) (c.as_slice.ensures ∙ ap (λ (p : Port). p.bits) c.port-item.is))
    ∙ c.loop-port.invariant
