use Rattle.tb_code.proofs.Common.{◌≡◌, take}
use Rattle.tb_code.proofs.copies.copy_exprs.Given as goal

abbrev pub invariant-loop-expr : goal.invariant-loop-expr
invariant-loop-expr l = l.copies ≡ take l.expr-index l.exprs
