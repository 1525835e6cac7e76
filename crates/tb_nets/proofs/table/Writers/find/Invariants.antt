use Rattle.tb_nets.proofs.Common.{◌≡◌, ◌++◌, drop, sharing}
use Rattle.tb_nets.proofs.table.Writers.find.Given as goal

abbrev pub invariant-loop-writer : goal.invariant-loop-writer
invariant-loop-writer l = l.found.items ++ sharing l.mask.bits (drop l.writer-index l.writer-items) ≡ l.initial.found.items ++ sharing l.mask.bits l.writer-items
