use Rattle.mutation_sites.proofs.Common.{◌≡◌, ◌++◌, drop, registers_connected}
use Rattle.mutation_sites.proofs.wiring.registers_connected.Given as goal

abbrev pub invariant-loop-number : goal.invariant-loop-number
invariant-loop-number l = l.items.items ++ registers_connected l.wiring.readers l.wiring.new l.number (drop l.number l.register-items) ≡ registers_connected l.wiring.readers l.wiring.new 0 l.netlist.raw.registers
