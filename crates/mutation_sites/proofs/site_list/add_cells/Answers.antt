use Rattle.mutation_sites.proofs.Common.{◌≡◌, rules, slice_get, Some, cell-there, cell-wide, narrow-ports}
use Rattle.mutation_sites.proofs.Ports.{few-there}
use Rattle.mutation_sites.proofs.site_list.add_cells.Goals as goal

pub add_ports-requires-clause-few : goal.add_ports-requires-clause-few
add_ports-requires-clause-few c =
    let plan = c.args.netlist.now in
    let is : slice_get plan.raw.cells c.loop-number.number ≡ Some c.cell-item.result = cell-there plan.raw.cells c.loop-number.number c.cell-item.result (search rules) (search rules) in
    rw c.as_slice.ensures (few-there plan c.raw.ensures.sound c.loop-number.number c.cell-item.result is)

pub add_ports-requires-clause-narrow : goal.add_ports-requires-clause-narrow
add_ports-requires-clause-narrow c =
    let plan = c.args.netlist.now in
    let is : slice_get plan.raw.cells c.loop-number.number ≡ Some c.cell-item.result = cell-there plan.raw.cells c.loop-number.number c.cell-item.result (search rules) (search rules) in
    rw c.as_slice.ensures (narrow-ports c.cell-item.result.ports (cell-wide plan c.raw.ensures.sound c.loop-number.number c.cell-item.result is))
