use Rattle.net_order.proofs.Common.{◌≡◌, drop, length, trail_of, after_nodes}
use Rattle.net_order.proofs.loops.Search.look.Given as goal

abbrev pub invariant-loop-node : goal.invariant-loop-node
invariant-loop-node l = (after_nodes (drop l.node-index l.row) (trail_of l.self) ≡ after_nodes l.row (trail_of l.initial.self)) × (length l.self.found.items ≡ length l.initial.self.found.items)
