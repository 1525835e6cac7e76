use Rattle.tb_machine.proofs.Common.{◌≡◌, List, length, Stmt, goes_on, tree_of, works, IsCode, FramesBelow}
use Rattle.tb_machine.proofs.machine.go_on.Given as goal

abbrev pub decreases-loop-frame : goal.decreases-loop-frame
decreases-loop-frame g l = l.left

abbrev pub invariant-loop-frame : goal.invariant-loop-frame
invariant-loop-frame g l = record {
  ran : (trees : List Stmt) → IsCode l.nodes trees → goes_on (g.E.Evaluator.meaning l.evaluator) l.process.event l.left (works l.nodes (tree_of trees) l.process.stack.items) l.scene ≡ goes_on (g.E.Evaluator.meaning l.evaluator) l.initial.process.event l.initial.left (works l.nodes (tree_of trees) l.initial.process.stack.items) l.initial.scene;
  below : FramesBelow (length l.nodes) l.process.stack.items;
  serves : g.E.Evaluator.serves l.evaluator l.scene;
}
