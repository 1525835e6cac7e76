use Rattle.tb_process.proofs.Common.{◌≡◌, ℕ, List, length, map, take, All, Node, Tree, all_suspended, StacksBelow, begun, IsBelow}
use Rattle.tb_process.proofs.begin.begin_each.Given as goal

abbrev pub invariant-loop-i : goal.invariant-loop-i
invariant-loop-i l = record {
  long : length l.processes ≡ length l.waiting;
  waits : (nodes : List Node) (tree : Tree) → all_suspended nodes tree (take l.i l.processes) ≡ map (begun tree) (take l.i l.waiting);
  below : (limit : ℕ) → All (IsBelow limit) l.waiting → StacksBelow limit (take l.i l.processes);
}
