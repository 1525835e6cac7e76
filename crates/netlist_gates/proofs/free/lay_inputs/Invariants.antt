use Rattle.netlist_gates.proofs.Common.{◌≡◌, length, drop, bits_at, lits_of}
use Rattle.netlist_gates.proofs.Ahead.{LaidAhead}
use Rattle.netlist_gates.proofs.free.lay_inputs.Given as goal

abbrev pub invariant-loop-port : goal.invariant-loop-port
invariant-loop-port l = record {
  ahead : LaidAhead (length l.initial.table.items) l.first (lits_of l.initial.table.items) (bits_at l.ports) l.next (lits_of l.table.items) (bits_at (drop l.port-index l.ports));
  long : length l.table.items ≡ length l.initial.table.items;
}
