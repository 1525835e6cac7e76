use Rattle.netlist_core.proofs.Common.{◌≤◌, ◌-◌, length, ◌∙◌, arith, common_steps}
use Rattle.netlist_core.proofs.CellPorts.{output_port-last}
use Rattle.netlist_core.proofs.cell.output_port.Goals as goal

pub returns : goal.returns
returns c =
    let some : 1 ≤ length c.args.ports.now = grind (arith, common_steps, c.is_empty.ensures, c.if-is_empty.false) in
    c.as_slice.ensures ∙ output_port-last c.args.ports.now (length c.args.ports.now - 1) c.index-ports-ports.result (omega (arith, some)) c.index-ports-ports.is
