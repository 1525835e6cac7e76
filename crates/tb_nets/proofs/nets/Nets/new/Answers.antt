use Rattle.tb_nets.proofs.Common.{ℕ, List, map, subst, names_of, wiring, IsGraph}
use Rattle.net_order.specs.declared.answer.Ordered.TheVariants.{Order, Loop}
use Rattle.net_order.specs.Answers.{IsAnswer}
use Rattle.tb_nets.proofs.Answering.{graph_inside, settled_of, first_of}
use Rattle.tb_nets.proofs.nets.Nets.new.Goals as goal

pub order-requires : goal.order-requires
order-requires c =
    let w = wiring (names_of c.args.scope.now) c.args.inputs.now c.args.outputs.now in
    let graph : List (List ℕ) = map (λ v. v.items) c.in_ok-graph.graph.items in
    graph_inside w c.as_slice.result.now graph c.in_ok-graph.ensures

pub returns-in-Order : goal.returns-in-Order
returns-in-Order c =
    let w = wiring (names_of c.args.scope.now) c.args.inputs.now c.args.outputs.now in
    let graph : List (List ℕ) = map (λ v. v.items) c.in_ok-graph.graph.items in
    let g : IsGraph w c.args.nodes.items graph = rw c.as_slice.ensures.value at c.in_ok-graph.ensures in
    let a : IsAnswer graph (Order c.in-Order.order) = subst (IsAnswer graph) c.in-Order.is c.in_ok-order.ensures in
    (c.from_vec.ensures, settled_of w c.args.nodes.items graph g c.in-Order.order.items a.0 a.1 (record { nodes = c.from_vec.result; order = c.from_vec-in-Order.result }) c.from_vec.ensures c.from_vec-in-Order.ensures)

pub returns-in-Loop : goal.returns-in-Loop
returns-in-Loop c =
    let w = wiring (names_of c.args.scope.now) c.args.inputs.now c.args.outputs.now in
    let graph : List (List ℕ) = map (λ v. v.items) c.in_ok-graph.graph.items in
    let g : IsGraph w c.args.nodes.items graph = rw c.as_slice.ensures.value at c.in_ok-graph.ensures in
    let a : IsAnswer graph (Loop c.in-Loop.node) = subst (IsAnswer graph) c.in-Loop.is c.in_ok-order.ensures in
    first_of w c.args.nodes.items graph g c.in-Loop.node a
