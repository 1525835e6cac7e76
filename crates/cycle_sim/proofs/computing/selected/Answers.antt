use Rattle.cycle_sim.proofs.Common.{◌∙◌, sym, wires_bits}
use Rattle.cycle_sim.proofs.ByNumbers.{read-bits, first-selected, second-selected}
use Rattle.cycle_sim.proofs.computing.selected.Goals as goal

pub returns-then-any_set : goal.returns-then-any_set
returns-then-any_set c = λ signed w.
    let table = c.args.table.now in
    let chosen = read-bits table c.args.b.now c.wires_number.result c.wires_number.ensures.value c.wires_number.ensures.fits in
    second-selected (wires_bits table c.args.s.now) (wires_bits table c.args.a.now) (wires_bits table c.args.b.now) c.wires_number.result signed w (sym c.any_set.ensures ∙ c.if-any_set.true) chosen

pub returns : goal.returns
returns c = λ signed w.
    let table = c.args.table.now in
    let chosen = read-bits table c.args.a.now c.wires_number-2.result c.wires_number-2.ensures.value c.wires_number-2.ensures.fits in
    first-selected (wires_bits table c.args.s.now) (wires_bits table c.args.a.now) (wires_bits table c.args.b.now) c.wires_number-2.result signed w (sym c.any_set.ensures ∙ c.if-any_set.false) chosen
