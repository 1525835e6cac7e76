use Rattle.tb_nets.proofs.Common.{List, ap, ◌∙◌, arith, names_of, Writer, wiring, IsSided, writes_in}
use Rattle.tb_nets.proofs.Graphs.{node_at, node_sided, none_written, more_writers}
use Rattle.tb_nets.proofs.graph.writers_of.Goals as goal

pub loop-number-init : goal.loop-number-init
loop-number-init c = λ inputs n i d. ap (λ (rows : List (List Writer)). writes_in rows n i d) c.new-writers.ensures ∙ none_written (wiring (names_of c.args.scope.now) inputs c.args.outputs.now) c.args.nodes.now n i d

pub add_writes-requires : goal.add_writes-requires
add_writes-requires c = node_sided (IsSided (names_of c.args.scope.now)) c.args.nodes.now c.loop-number.number c.index-nodes-number.result c.index-nodes-number.is (omega arith) c.requires

pub loop-number-preserved : goal.loop-number-preserved
loop-number-preserved c = λ inputs n i d.
    (let w = wiring (names_of c.args.scope.now) inputs c.args.outputs.now in
    let at = node_at c.args.nodes.now c.loop-number.number c.index-nodes-number.result c.index-nodes-number.is (omega arith) in
    more_writers w c.args.nodes.now c.loop-number.number c.index-nodes-number.result n i d _ _ _ at (c.loop-number.invariant inputs n i d) ((rw c.new-masks.ensures at (c.in_ok-add_writes.ensures inputs)) n i) (c.in_ok-add_all.ensures n i d))
