use Rattle.cycle_sim.proofs.Common.{sym, wires_bits}
use Rattle.cycle_sim.proofs.ByNumbers.{read-bits, set-is}
use Rattle.cycle_sim.proofs.computing.any_set.Goals as goal

pub returns : goal.returns
returns c =
    let table = c.args.table.now in
    let wires = c.args.wires.now in
    let number = c.wires_number-number.result in
    sym (set-is (wires_bits table wires) number (read-bits table wires number c.wires_number-number.ensures.value c.wires_number-number.ensures.fits))
