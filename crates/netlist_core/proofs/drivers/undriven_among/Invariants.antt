use Rattle.netlist_core.proofs.Common.{◌≡◌, drop, driver_at, undriven_bits}
use Rattle.netlist_core.proofs.drivers.undriven_among.Given as goal

abbrev pub invariant-loop-bit : goal.invariant-loop-bit
invariant-loop-bit l = undriven_bits (driver_at l.table) (drop l.bit-index l.bits) l.found ≡ undriven_bits (driver_at l.table) l.bits l.initial.found
