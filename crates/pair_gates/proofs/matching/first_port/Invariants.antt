use Rattle.pair_gates.proofs.Common.{◌≡◌, ℕ, ◌<◌, slice_get, ports_named}
use Rattle.pair_gates.proofs.matching.first_port.Given as goal

abbrev pub invariant-loop-place : goal.invariant-loop-place
invariant-loop-place l = (j : ℕ) → j < l.place → slice_get (ports_named l.others) j ≡ slice_get (ports_named l.ports) j
