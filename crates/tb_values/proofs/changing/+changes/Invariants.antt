use Rattle.tb_values.proofs.Common.{◌≡◌, map, take, any_of, changes}
use Rattle.tb_values.proofs.changing.+changes.Given as goal

abbrev pub invariant-any_changes-loop-expr : goal.invariant-any_changes-loop-expr
invariant-any_changes-loop-expr l = l.found ≡ any_of (map changes (take l.expr-index l.exprs))
