use Rattle.net_order.proofs.Common.{◌+◌, length, map, none_left, trail_of, unfound, IsTrail}
use Rattle.net_order.proofs.loops.is_on_loop.Given as goal

abbrev pub invariant-loop-next : goal.invariant-loop-next
invariant-loop-next l = IsTrail (map (λ v. v.items) l.reads) l.node (trail_of l.search) none_left

abbrev pub decreases-loop-next : goal.decreases-loop-next
decreases-loop-next l = length l.search.open_nodes.items + unfound l.search.found.items
