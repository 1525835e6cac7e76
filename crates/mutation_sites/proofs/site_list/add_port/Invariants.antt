use Rattle.mutation_sites.proofs.Common.{◌≡◌, ◌++◌, drop, modes_of, bits_sites}
use Rattle.mutation_sites.proofs.site_list.add_port.Given as goal

abbrev pub invariant-loop-bit : goal.invariant-loop-bit
invariant-loop-bit l = l.list.items ++ bits_sites (modes_of l.modes) l.place l.port l.bit (drop l.bit l.bits) ≡ l.fn.list.items ++ bits_sites (modes_of l.modes) l.place l.port 0 l.bits
