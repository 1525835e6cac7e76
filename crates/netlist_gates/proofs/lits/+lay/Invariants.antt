use Rattle.netlist_gates.proofs.Common.{length}
use Rattle.netlist_gates.proofs.lits.+lay.Given as goal

abbrev pub decreases-lay : goal.decreases-lay
decreases-lay l = length l.bits.now
