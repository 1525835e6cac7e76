use Rattle.netlist_core.proofs.Common.{◌≡◌, drop, known_of, after_bits}
use Rattle.netlist_core.proofs.drivers.Drivers.drive.Given as goal

abbrev pub invariant-loop-bit : goal.invariant-loop-bit
invariant-loop-bit l = after_bits l.driver (drop l.bit-index l.bits) (known_of l.self) ≡ after_bits l.driver l.bits (known_of l.initial.self)
