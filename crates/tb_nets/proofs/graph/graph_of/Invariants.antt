use Rattle.tb_nets.proofs.Common.{map, names_of, wiring, rows_of, writes_in}
use Rattle.tb_nets.proofs.Graphs.{AreRows}
use Rattle.tb_nets.proofs.graph.graph_of.Given as goal

abbrev pub invariant-loop-node : goal.invariant-loop-node
invariant-loop-node l = AreRows (wiring (names_of l.scope) l.inputs l.outputs) l.nodes (writes_in (rows_of l.writers)) l.node-index (map (λ row. row.items) l.graph.items)
