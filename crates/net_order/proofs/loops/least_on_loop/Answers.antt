use Rattle.net_order.proofs.Common.{◌≡◌, ℕ, map, sym, ◌∙◌, subst, inl, inr, arith, false≢true, cases_eq, length-map, Reads, IsOnLoop}
use Rattle.net_order.proofs.Chains.{loop-inside}
use Rattle.net_order.proofs.loops.least_on_loop.Goals as goal

pub loop-node-preserved : goal.loop-node-preserved
loop-node-preserved c = λ k below loop. elim (cases_eq k c.loop-node.node) [
  | inl same ↦ false≢true (sym c.if-branch.false ∙ c.in_ok-is_looped.ensures.1 (subst (λ (j : ℕ). IsOnLoop (Reads (map (λ v. v.items) c.args.reads.now)) j) same loop))
  | inr other ↦ c.loop-node.invariant k (let apart : ¬ (k ≡ c.loop-node.node) = other in omega (arith, below)) loop
]

pub returns : goal.returns
returns c = λ n loop. c.loop-node.invariant n (let inside = loop-inside (map (λ v. v.items) c.args.reads.now) n loop.0 n loop.1 in omega (arith, inside, c.requires.room, length-map c.args.reads.now (λ v. v.items), c.loop-node-test.false)) loop
