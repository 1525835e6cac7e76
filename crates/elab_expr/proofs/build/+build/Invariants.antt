use Rattle.elab_expr.proofs.Common.{◌≡◌, ◌+◌, ◌*◌, [], max, take, size-Expr, names_of, lay_parts, layouts, showing}
use Rattle.elab_expr.proofs.Arms.{Joins}
use Rattle.elab_expr.proofs.build.+build.Given as goal

abbrev pub decreases-build : goal.decreases-build
decreases-build l = 8 * goal.size-build l + 1

abbrev pub decreases-build_parts : goal.decreases-build_parts
decreases-build_parts l = 8 * goal.size-build_parts l

abbrev pub decreases-select : goal.decreases-select
decreases-select l = 8 * goal.size-select l + 5

abbrev pub decreases-unary : goal.decreases-unary
decreases-unary l = 8 * goal.size-unary l + 5

abbrev pub decreases-binary : goal.decreases-binary
decreases-binary l = 8 * max (size-Expr l.left.now) (size-Expr l.right.now) + 5

abbrev pub decreases-condition : goal.decreases-condition
decreases-condition l = 8 * goal.size-condition l + 3

abbrev pub decreases-conditional : goal.decreases-conditional
decreases-conditional l = 8 * max (size-Expr l.test.now) (max (size-Expr l.yes.now) (size-Expr l.no.now)) + 5

abbrev pub decreases-choice : goal.decreases-choice
decreases-choice l = 8 * max (size-Expr l.yes.now) (size-Expr l.no.now) + 4

abbrev pub decreases-concatenation : goal.decreases-concatenation
decreases-concatenation l = 8 * goal.size-concatenation l + 4

abbrev pub decreases-joined_at : goal.decreases-joined_at
decreases-joined_at l = 8 * goal.size-joined_at l + 5

abbrev pub decreases-replicated : goal.decreases-replicated
decreases-replicated l = 8 * goal.size-replicated l + 5

abbrev pub invariant-concatenation-loop-part : goal.invariant-concatenation-loop-part
invariant-concatenation-loop-part l = record {
  built : Joins (names_of l.scope) (take l.part-index l.parts) l.fn.builder l.builder l.all;
  laid : showing l.builder l.all ≡ lay_parts (layouts (names_of l.scope) (take l.part-index l.parts)) l.fn.builder [];
}
