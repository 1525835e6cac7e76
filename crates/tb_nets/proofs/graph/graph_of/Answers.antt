use Rattle.tb_nets.proofs.Common.{map, arith, names_of, wiring, IsSided, rows_of, writes_in}
use Rattle.tb_nets.proofs.Graphs.{node_at, node_sided, no_rows, rows_pushed, graph_is}
use Rattle.tb_nets.proofs.graph.graph_of.Goals as goal

pub loop-node-init : goal.loop-node-init
loop-node-init c =
    let w = wiring (names_of c.args.scope.now) c.args.inputs.now c.args.outputs.now in
    rw c.new-graph.ensures.items (no_rows w c.args.nodes.now (writes_in (rows_of c.in_ok-writers.writers)))

pub read_by-requires : goal.read_by-requires
read_by-requires c = node_sided (IsSided (names_of c.args.scope.now)) c.args.nodes.now c.loop-node.node-index c.node-item.result c.node-item.is (omega arith) c.requires

pub loop-node-preserved : goal.loop-node-preserved
loop-node-preserved c =
    let w = wiring (names_of c.args.scope.now) c.args.inputs.now c.args.outputs.now in
    let at = node_at c.args.nodes.now c.loop-node.node-index c.node-item.result c.node-item.is (omega arith) in
    rows_pushed (λ row. row.items) w c.args.nodes.now (writes_in (rows_of c.in_ok-writers.writers)) c.loop-node.node-index c.loop-node.graph.items c.push.new.self.items c.in_ok-read_by.field-0 c.node-item.result c.in_ok-push.ensures.items at (c.in_ok-read_by.ensures c.args.outputs.now) c.loop-node.invariant

pub returns : goal.returns
returns c =
    let w = wiring (names_of c.args.scope.now) c.args.inputs.now c.args.outputs.now in
    graph_is w c.args.nodes.now (rows_of c.in_ok-writers.writers) (map (λ row. row.items) c.loop-node.graph.items) c.loop-node.node-index (omega arith) (omega arith) (c.in_ok-writers.ensures c.args.inputs.now) c.loop-node.invariant
