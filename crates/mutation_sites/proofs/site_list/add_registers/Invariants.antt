use Rattle.mutation_sites.proofs.Common.{◌≡◌, ◌++◌, drop, registers_sites}
use Rattle.mutation_sites.proofs.site_list.add_registers.Given as goal

abbrev pub invariant-loop-number : goal.invariant-loop-number
invariant-loop-number l = l.list.items ++ registers_sites l.modes l.number (drop l.number l.register-items) ≡ l.fn.list.items ++ registers_sites l.modes 0 l.netlist.raw.registers
