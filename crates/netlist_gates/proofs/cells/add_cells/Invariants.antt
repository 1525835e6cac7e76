use Rattle.netlist_gates.proofs.Common.{◌≡◌, ◌≤◌, length, drop, lits_of, AreWithin, with_cells}
use Rattle.netlist_gates.proofs.cells.add_cells.Given as goal

abbrev pub invariant-loop-i : goal.invariant-loop-i
invariant-loop-i l = record {
  made : with_cells l.netlist.raw.cells (drop l.i l.netlist.order) (record { gates = l.gates; lits = lits_of l.table.items }) ≡ with_cells l.netlist.raw.cells l.netlist.order (record { gates = l.initial.gates; lits = lits_of l.initial.table.items });
  within : AreWithin l.gates (lits_of l.table.items);
  long : length l.table.items ≡ length l.initial.table.items;
  few : length l.gates.made ≤ 200000;
}
