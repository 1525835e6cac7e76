use Rattle.vlog_meaning.proofs.Common.{◌≡◌, ◌+◌, ◌*◌, take, DivideByZero, names_of, senses, all_zeros, least_at}
use Rattle.vlog_meaning.proofs.zeros.+zero.Given as goal

abbrev pub decreases-zero_in : goal.decreases-zero_in
decreases-zero_in l = 4 * goal.size-zero_in l

abbrev pub decreases-own_zero_in : goal.decreases-own_zero_in
decreases-own_zero_in l = 4 * goal.size-own_zero_in l + 1

abbrev pub decreases-own_zeros_in : goal.decreases-own_zeros_in
decreases-own_zeros_in l = 4 * goal.size-own_zeros_in l + 2

abbrev pub decreases-zero_in_call : goal.decreases-zero_in_call
decreases-zero_in_call l = 4 * goal.size-zero_in_call l + 3

abbrev pub invariant-own_zeros_in-loop-expr : goal.invariant-own_zeros_in-loop-expr
invariant-own_zeros_in-loop-expr l = l.found ≡ least_at DivideByZero (all_zeros (senses (names_of l.scope) (take l.expr-index l.exprs)))
