use Rattle.elab_lefts.proofs.Common.{◌≡◌, ◌++◌, map, take, write_left}
use Rattle.elab_lefts.proofs.lists.list_writes.Given as goal

abbrev pub invariant-loop-write : goal.invariant-loop-write
invariant-loop-write l = l.lefts.items ≡ l.fn.lefts.items ++ map (write_left l.signals) (take l.write-index l.writes)
