use Rattle.netlist_gates.proofs.Common.{◌≡◌, take, lits_of, ports_lits}
use Rattle.netlist_gates.proofs.lits.rows_at.Given as goal

abbrev pub invariant-loop-port : goal.invariant-loop-port
invariant-loop-port l = l.rows.items ≡ ports_lits (lits_of l.table) (take l.port-index l.ports)
