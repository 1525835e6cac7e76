use Rattle.netlist_core.proofs.Common.{◌↔◌, drop, AllRegistersFit}
use Rattle.netlist_core.proofs.formed.all_fit.Given as goal

abbrev pub invariant-loop-register : goal.invariant-loop-register
invariant-loop-register l = AllRegistersFit (drop l.register-index l.registers) ↔ AllRegistersFit l.registers
