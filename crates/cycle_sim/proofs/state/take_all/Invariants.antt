use Rattle.cycle_sim.proofs.Common.{◌≡◌, ◌≤◌, ◌++◌, take, drop, length, plain, taken, nets_of}
use Rattle.cycle_sim.proofs.state.take_all.Given as goal

abbrev pub invariant-loop-i : goal.invariant-loop-i
invariant-loop-i l = record {
  inside : l.i ≤ length l.netlist.raw.registers;
  long : length l.registers.items ≡ length l.initial.registers.items;
  taken : l.registers.items ≡ taken (plain (nets_of l.netlist.raw l.table)) 0 (take l.i l.netlist.raw.registers) ++ drop l.i l.initial.registers.items;
}
