use Rattle.std.proofs.Common.{◌≡◌, map, take}
use Rattle.process_events.specs.Naming.{any_of, expr_reads}
use Rattle.process_events.proofs.reads.+reads.Given as goal

abbrev pub invariant-any_expr_reads-loop-expr : goal.invariant-any_expr_reads-loop-expr
invariant-any_expr_reads-loop-expr l = l.found ≡ any_of (map (expr_reads l.name) (take l.expr-index l.exprs))
