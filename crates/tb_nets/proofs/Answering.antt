-- An order of a graph is one of the nodes of which it is the graph, and so is a first node on a loop.
use Rattle.tb_nets.proofs.Common.{◌≡◌, ℕ, List, length, sym, subst, arith, IsOnLoop, IsOrder, IsFirst, Reads, AreInside, NetNode, Wiring, ReadsNode, IsSettled, IsGraph}
use Rattle.net_order.proofs.Along.{never_along, order_along, first_along}
use Rattle.tb_nets.specs.declared.nets.Nets.{Nets}
use Rattle.tb_nets.proofs.Graphs.{writer_inside}

module _ (w : Wiring) (nodes : List NetNode) (graph : List (List ℕ)) (g : IsGraph w nodes graph) where
  pub graph_inside : AreInside graph
  graph_inside c d r =
      let read = g.sound c d r in
      let inside = (writer_inside w nodes d read.0 read.1 read.3).2 in
      let count = g.count in
      omega (arith, inside, count)

  pub order_of : (order : List ℕ) → IsOrder (length graph) (Reads graph) order → IsOrder (length nodes) (ReadsNode w nodes) order
  order_of order h = subst (λ (n : ℕ). IsOrder n (ReadsNode w nodes) order) g.count (order_along (Reads graph) (ReadsNode w nodes) g.sound g.covers (length graph) order h)

  pub never_of : ((c : ℕ) → ¬ IsOnLoop (Reads graph) c) → (c : ℕ) → ¬ IsOnLoop (ReadsNode w nodes) c
  never_of = never_along (Reads graph) (ReadsNode w nodes) g.sound g.covers

  pub settled_of : (order : List ℕ) → IsOrder (length graph) (Reads graph) order → ((c : ℕ) → ¬ IsOnLoop (Reads graph) c) → (nets : Nets) → nets.nodes ≡ nodes → nets.order ≡ order → IsSettled w nets
  settled_of order h never nets nodes_are order_is = record {
    order = subst (λ (o : List ℕ). IsOrder (length nets.nodes) (ReadsNode w nets.nodes) o) (sym order_is) (subst (λ (ns : List NetNode). IsOrder (length ns) (ReadsNode w ns) order) (sym nodes_are) (order_of order h));
    never = subst (λ (ns : List NetNode). (c : ℕ) → ¬ IsOnLoop (ReadsNode w ns) c) (sym nodes_are) (never_of never);
  }

  pub first_of : (c : ℕ) → IsFirst (IsOnLoop (Reads graph)) c → IsFirst (IsOnLoop (ReadsNode w nodes)) c
  first_of = first_along (Reads graph) (ReadsNode w nodes) g.sound g.covers
