use Rattle.tb_machine.proofs.Common.{◌≡◌, ℕ, ◌<◌, ◌≤◌, List, map, drop, ◌++◌, length, All, Node, Do, Tree, works, FramesBelow}
use Rattle.tb_machine.proofs.machine.push_all.Given as goal

abbrev pub decreases-loop-left : goal.decreases-loop-left
decreases-loop-left l = l.left

abbrev pub invariant-loop-left : goal.invariant-loop-left
invariant-loop-left l = record {
  within : l.left ≤ length l.body;
  works : (nodes : List Node) (tree : Tree) → works nodes tree l.stack.items ≡ map (λ k. Do (tree k)) (drop l.left l.body) ++ works nodes tree l.initial.stack.items;
  below : (limit : ℕ) → FramesBelow limit l.initial.stack.items → All (λ k. k < limit) l.body → FramesBelow limit l.stack.items;
}
