use Rattle.vlog_expand.proofs.Common.{◌≡◌, ◌-◌, drop, definitions_of, behind, expanded, in_order}
use Rattle.vlog_expand.proofs.output.Output.+add.Given as goal

abbrev pub decreases-add : goal.decreases-add
decreases-add l = l.depth

abbrev pub invariant-loop-inner : goal.invariant-loop-inner
invariant-loop-inner l =
    behind l.initial.self.given.items (in_order (expanded (l.depth - 1) (definitions_of l.macros)) l.text l.initial.self.left)
    ≡ behind l.self.given.items (in_order (expanded (l.depth - 1) (definitions_of l.macros)) (drop l.inner-index l.text) l.self.left)
