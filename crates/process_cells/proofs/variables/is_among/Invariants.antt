use Rattle.process_cells.proofs.Common.{◌≡◌, drop, map, stands, target_of}
use Rattle.process_cells.proofs.variables.is_among.Given as goal

abbrev pub invariant-loop-write : goal.invariant-loop-write
invariant-loop-write l = stands l.is_blocking (map target_of l.found) l.number ≡ stands l.is_blocking (map target_of (drop l.write-index l.found)) l.number
