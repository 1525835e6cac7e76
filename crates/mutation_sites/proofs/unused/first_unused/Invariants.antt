use Rattle.mutation_sites.proofs.Common.{ℕ, ◌-◌, ◌<◌, ◌≤◌, drivers}
use Rattle.mutation_sites.proofs.unused.first_unused.Given as goal

abbrev pub invariant-loop-raw : goal.invariant-loop-raw
invariant-loop-raw l = (k : ℕ) → k < l.net → 1 ≤ drivers l.netlist.raw k

abbrev pub decreases-loop-raw : goal.decreases-loop-raw
decreases-loop-raw l = 1048578 - l.net
