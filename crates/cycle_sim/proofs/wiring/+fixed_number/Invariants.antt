use Rattle.cycle_sim.proofs.Common.{length}
use Rattle.cycle_sim.proofs.wiring.+fixed_number.Given as goal

abbrev pub decreases-fixed_number : goal.decreases-fixed_number
decreases-fixed_number l = length l.bits.now
