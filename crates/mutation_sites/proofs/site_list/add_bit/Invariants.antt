use Rattle.mutation_sites.proofs.Common.{◌≡◌, ◌++◌, drop, filter, is_in, bit_sites}
use Rattle.mutation_sites.proofs.site_list.add_bit.Given as goal

abbrev pub invariant-loop-mode : goal.invariant-loop-mode
invariant-loop-mode l = l.list.items ++ bit_sites (filter (is_in l.modes) (drop l.mode-index l.mode-items)) l.place l.port l.bit ≡ l.fn.list.items ++ bit_sites (filter (is_in l.modes) l.mode-items) l.place l.port l.bit
