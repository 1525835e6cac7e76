use Rattle.netlist_core.proofs.Common.{◌≡◌, ◌++◌, drop, driver_at, sources}
use Rattle.netlist_core.proofs.reads.add_sources.Given as goal

abbrev pub invariant-loop-bit : goal.invariant-loop-bit
invariant-loop-bit l = l.found.items ++ sources (driver_at l.table) (drop l.bit-index l.bits) ≡ l.initial.found.items ++ sources (driver_at l.table) l.bits
