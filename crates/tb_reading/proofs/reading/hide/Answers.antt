use Rattle.tb_reading.proofs.Judging.{wide_ports}
use Rattle.tb_reading.proofs.reading.hide.Goals as goal

pub hide_ports-requires : goal.hide_ports-requires
hide_ports-requires c = rw c.as_slice.ensures (wide_ports c.args.netlist.now.inputs c.requires.inputs)

pub hide_ports-requires-2 : goal.hide_ports-requires-2
hide_ports-requires-2 c = rw c.as_slice-2.ensures (wide_ports c.args.netlist.now.outputs c.requires.outputs)
