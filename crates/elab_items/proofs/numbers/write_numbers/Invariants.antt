use Rattle.elab_items.proofs.Common.{◌≡◌, take, map, Write}
use Rattle.elab_items.proofs.numbers.write_numbers.Given as goal

abbrev pub invariant-loop-write : goal.invariant-loop-write
invariant-loop-write l = l.numbers.items ≡ map (λ (w : Write). w.number) (take l.write-index l.writes)
