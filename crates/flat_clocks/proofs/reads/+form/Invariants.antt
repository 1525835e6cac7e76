use Rattle.flat_clocks.proofs.Common.{take, flat_map, IsFirst, form_reads, names_in}
use Rattle.flat_clocks.proofs.reads.+form.Given as goal

abbrev pub invariant-forms_read-loop-expr : goal.invariant-forms_read-loop-expr
invariant-forms_read-loop-expr l = IsFirst (flat_map (form_reads (names_in l.names)) (take l.expr-index l.exprs)) l.found
