use Rattle.process_cells.proofs.Common.{◌≡◌, take, map, distinct, target_of}
use Rattle.process_cells.proofs.variables.firsts_of.Given as goal

abbrev pub invariant-loop-write : goal.invariant-loop-write
invariant-loop-write l = map target_of l.found.items ≡ distinct (map target_of (take l.write-index l.writes))
