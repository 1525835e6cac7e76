use Rattle.cycle_sim.proofs.Common.{length}
use Rattle.cycle_sim.proofs.parts.+number_of.Given as goal

abbrev pub decreases-number_of : goal.decreases-number_of
decreases-number_of l = length l.parts.now
