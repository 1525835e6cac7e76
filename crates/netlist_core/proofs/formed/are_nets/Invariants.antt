use Rattle.netlist_core.proofs.Common.{◌↔◌, drop, AllNets}
use Rattle.netlist_core.proofs.formed.are_nets.Given as goal

abbrev pub invariant-loop-bit : goal.invariant-loop-bit
invariant-loop-bit l = AllNets (drop l.bit-index l.bits) ↔ AllNets l.bits
