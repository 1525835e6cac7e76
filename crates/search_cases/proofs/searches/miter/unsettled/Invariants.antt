use Rattle.std.proofs.Common.{◌≡◌, ℕ, ◌+◌, ◌<◌, ◌≤◌, None, replicate}
use Rattle.clause_store.specs.Propagation.{none}
use Rattle.search_cases.specs.Settling.{IsSettled}
use Rattle.search_cases.proofs.searches.miter.unsettled.Given as goal

abbrev pub invariant-loop-v : goal.invariant-loop-v
invariant-loop-v l = ((v : ℕ) → l.free < v → v ≤ l.v → IsSettled l.store none v) × (l.values.items ≡ replicate (l.variables + 1) None)
