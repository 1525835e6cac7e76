use Rattle.tb_machine.proofs.Common.{◌≡◌, List, length, take, drop, Stmt, all_woken, tree_of, IsCode, all_suspended, StacksBelow}
use Rattle.tb_machine.proofs.Wakes.{with_first}
use Rattle.tb_machine.proofs.wake.wake_all.Given as goal

abbrev pub invariant-loop-i : goal.invariant-loop-i
invariant-loop-i g l = record {
  ran : (trees : List Stmt) → IsCode l.nodes trees → all_woken (g.E.Evaluator.meaning l.evaluator) l.event l.initial.left (all_suspended l.nodes (tree_of trees) l.initial.processes) l.initial.scene ≡ with_first (take l.i (all_suspended l.nodes (tree_of trees) l.processes)) (all_woken (g.E.Evaluator.meaning l.evaluator) l.event l.left (drop l.i (all_suspended l.nodes (tree_of trees) l.processes)) l.scene);
  below : StacksBelow (length l.nodes) l.processes;
  serves : g.E.Evaluator.serves l.evaluator l.scene;
}
