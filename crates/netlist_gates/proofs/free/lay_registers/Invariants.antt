use Rattle.netlist_gates.proofs.Common.{◌≡◌, length, drop, q_bits, lits_of}
use Rattle.netlist_gates.proofs.Ahead.{LaidAhead}
use Rattle.netlist_gates.proofs.free.lay_registers.Given as goal

abbrev pub invariant-loop-register : goal.invariant-loop-register
invariant-loop-register l = record {
  ahead : LaidAhead (length l.initial.table.items) l.first (lits_of l.initial.table.items) (q_bits l.registers) l.next (lits_of l.table.items) (q_bits (drop l.register-index l.registers));
  long : length l.table.items ≡ length l.initial.table.items;
}
