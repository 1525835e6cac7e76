use Rattle.netlist_gates.proofs.Common.{length}
use Rattle.netlist_gates.proofs.free.+lay_variables.Given as goal

abbrev pub decreases-lay_variables : goal.decreases-lay_variables
decreases-lay_variables l = length l.bits.now
