use Rattle.tb_nets.proofs.Common.{◌≡◌, ◌++◌, drop, rows_of, all_sharing}
use Rattle.tb_nets.proofs.table.Writers.of.Given as goal

abbrev pub invariant-loop-mask : goal.invariant-loop-mask
invariant-loop-mask l = l.found.items ++ all_sharing (rows_of l.self) (drop l.mask-index l.masks) ≡ all_sharing (rows_of l.self) l.masks
