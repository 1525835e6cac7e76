use Rattle.net_builder.proofs.Common.{◌≡◌, ◌<◌, ℕ, true, slice_index_or, IsOnLoop, next_in, seen_in, IsClosed}
use Rattle.net_builder.proofs.loops.least_on_loop.Given as goal

abbrev pub invariant-loop-net : goal.invariant-loop-net
invariant-loop-net l = IsOnLoop (next_in l.steps) l.least × IsClosed (next_in l.steps) l.seen.items l.least × ((k : ℕ) → k < l.net-index → seen_in l.seen.items (slice_index_or l.loops k 0) ≡ true)
