use Rattle.mutation_sites.proofs.Common.{◌<◌, length, ap, rules, arith}
use Rattle.mutation_sites.proofs.Ports.{narrow-register}
use Rattle.mutation_sites.proofs.Totals.{registers-number}
use Rattle.mutation_sites.proofs.site_list.add_registers.Goals as goal

pub overflow_cast-place : goal.overflow_cast-place
overflow_cast-place c =
    let plan = c.args.netlist.now in
    let inside : c.loop-number.number < length plan.raw.registers = search rules in
    omega (arith, inside, registers-number plan c.raw.ensures.sound)

pub add_port-requires : goal.add_port-requires
add_port-requires c =
    let plan = c.args.netlist.now in
    let narrow = narrow-register plan.raw.registers c.loop-number.number c.register-item.result c.raw.ensures.sound.formed.registers (search rules) (search rules) in
    omega (arith, ap length c.as_slice.ensures, narrow.0)

pub add_port-requires-in-loop-number : goal.add_port-requires-in-loop-number
add_port-requires-in-loop-number c =
    let plan = c.args.netlist.now in
    let narrow = narrow-register plan.raw.registers c.loop-number.number c.register-item.result c.raw.ensures.sound.formed.registers (search rules) (search rules) in
    omega (arith, ap length c.as_slice-in-loop-number.ensures, narrow.1)
