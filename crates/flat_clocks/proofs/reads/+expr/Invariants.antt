use Rattle.flat_clocks.proofs.Common.{take, flat_map, IsFirst, expr_reads, names_in}
use Rattle.flat_clocks.proofs.reads.+expr.Given as goal

abbrev pub invariant-exprs_read-loop-expr : goal.invariant-exprs_read-loop-expr
invariant-exprs_read-loop-expr l = IsFirst (flat_map (expr_reads (names_in l.names)) (take l.expr-index l.exprs)) l.found
