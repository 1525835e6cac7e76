use Rattle.step_trials.proofs.Common.{◌≡◌, ◌++◌, drop, bits_at, joined}
use Rattle.step_trials.proofs.design.joined.Given as goal

abbrev pub invariant-loop-port : goal.invariant-loop-port
invariant-loop-port l = l.bits.items ++ joined (bits_at (drop l.port-index l.ports)) ≡ joined (bits_at l.ports)
