use Rattle.netlist_core.proofs.Common.{arith}
use Rattle.netlist_core.proofs.CellPorts.{input_ports-take}
use Rattle.netlist_core.proofs.cell.input_ports.Goals as goal

pub returns : goal.returns
returns c = input_ports-take c.args.ports.now c.saturating_sub.result (omega (arith, c.saturating_sub.ensures))
