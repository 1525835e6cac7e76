use Rattle.netlist_core.proofs.Common.{◌≡◌, drop, known_of, after_registers}
use Rattle.netlist_core.proofs.drivers.Drivers.drive_registers.Given as goal

abbrev pub invariant-loop-register : goal.invariant-loop-register
invariant-loop-register l = after_registers (drop l.register-index l.registers) (known_of l.self) ≡ after_registers l.registers (known_of l.initial.self)
