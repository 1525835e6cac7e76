use Rattle.mutation_sites.proofs.Common.{◌≡◌, rules, slice_get, Some, cell-there}
use Rattle.mutation_sites.proofs.Ports.{few-there}
use Rattle.mutation_sites.proofs.wiring.cells_connected.Goals as goal

pub cell_connected-requires : goal.cell_connected-requires
cell_connected-requires c =
    let plan = c.args.netlist.now in
    let is : slice_get plan.raw.cells c.loop-number.number ≡ Some c.cell-item.result = cell-there plan.raw.cells c.loop-number.number c.cell-item.result (search rules) (search rules) in
    few-there plan c.raw.ensures.sound c.loop-number.number c.cell-item.result is
