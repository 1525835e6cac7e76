use Rattle.tb_nets.proofs.Common.{◌≡◌, ℕ, ◌||◌, ◌&&◌, nat_eq, take, bits_in, rows_of, writes_in}
use Rattle.tb_nets.proofs.table.Writers.add_all.Given as goal

abbrev pub invariant-loop-mask : goal.invariant-loop-mask
invariant-loop-mask l = (n i d : ℕ) → writes_in (rows_of l.self) n i d ≡ (writes_in (rows_of l.fn.self) n i d || (nat_eq d l.node && bits_in (take l.mask-index l.masks) n i))
