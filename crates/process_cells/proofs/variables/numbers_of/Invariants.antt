use Rattle.process_cells.proofs.Common.{◌≡◌, take, map, Write}
use Rattle.process_cells.proofs.variables.numbers_of.Given as goal

abbrev pub invariant-loop-write : goal.invariant-loop-write
invariant-loop-write l = l.numbers.items ≡ map (λ (w : Write). w.number) (take l.write-index l.writes)
