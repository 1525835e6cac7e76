use Rattle.cycle_sim.proofs.Common.{◌≡◌, map, take}
use Rattle.cycle_sim.proofs.state.starts.Given as goal

abbrev pub invariant-loop-register : goal.invariant-loop-register
invariant-loop-register l = l.registers.items ≡ map (λ r. r.start.bits) (take l.register-index l.register-items)
