use Rattle.tb_process.proofs.Common.{◌≡◌, ℕ, List, ◌++◌, map, drop, All, Node, Tree, all_suspended, StacksBelow, begun, IsBelow}
use Rattle.tb_process.proofs.begin.begin_all.Given as goal

abbrev pub invariant-loop-process : goal.invariant-loop-process
invariant-loop-process l = record {
  waits : (nodes : List Node) (tree : Tree) → all_suspended nodes tree l.processes.items ++ map (begun tree) (drop l.process-index l.waiting) ≡ map (begun tree) l.waiting;
  below : (limit : ℕ) → All (IsBelow limit) l.waiting → StacksBelow limit l.processes.items;
}
