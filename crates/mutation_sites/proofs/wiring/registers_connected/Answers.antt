use Rattle.mutation_sites.proofs.Common.{◌<◌, length, rules, arith}
use Rattle.mutation_sites.proofs.Totals.{registers-number}
use Rattle.mutation_sites.proofs.wiring.registers_connected.Goals as goal

pub overflow_cast-number : goal.overflow_cast-number
overflow_cast-number c =
    let plan = c.args.netlist.now in
    let inside : c.loop-number.number < length plan.raw.registers = search rules in
    omega (arith, inside, registers-number plan c.raw.ensures.sound)
