use Rattle.cycle_sim.proofs.Common.{length}
use Rattle.cycle_sim.proofs.state.+have_widths.Given as goal

abbrev pub decreases-have_widths : goal.decreases-have_widths
decreases-have_widths l = length l.ports.now
