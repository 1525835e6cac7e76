use Rattle.net_order.proofs.Common.{ℕ, ◌<◌, map, Reads, IsOnLoop}
use Rattle.net_order.proofs.loops.least_on_loop.Given as goal

abbrev pub invariant-loop-node : goal.invariant-loop-node
invariant-loop-node l = (k : ℕ) → k < l.node → ¬ IsOnLoop (Reads (map (λ v. v.items) l.reads)) k
