use Rattle.netlist_core.proofs.Common.{◌≡◌, drop, driver_at, undriven_at, d_bits}
use Rattle.netlist_core.proofs.drivers.undriven_of_registers.Given as goal

abbrev pub invariant-loop-register : goal.invariant-loop-register
invariant-loop-register l = undriven_at (driver_at l.table) (d_bits (drop l.register-index l.registers)) l.found ≡ undriven_at (driver_at l.table) (d_bits l.registers) l.initial.found
