use Rattle.vlog_meaning.proofs.Common.{◌≡◌, take, names_of, senses}
use Rattle.vlog_meaning.proofs.literals.+literals.Given as goal

abbrev pub invariant-listed-loop-expr : goal.invariant-listed-loop-expr
invariant-listed-loop-expr l = senses (names_of l.scope) l.found ≡ senses (names_of l.scope) (take l.expr-index l.exprs)
