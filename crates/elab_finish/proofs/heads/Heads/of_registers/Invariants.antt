use Rattle.elab_finish.proofs.Common.{head_in}
use Rattle.elab_finish.proofs.Orders.{HaveFirst}
use Rattle.elab_finish.proofs.heads.Heads.of_registers.Given as goal

abbrev pub invariant-loop-place : goal.invariant-loop-place
invariant-loop-place l = HaveFirst l.registers (head_in l.heads.table.items) l.place
