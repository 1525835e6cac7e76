use Rattle.vlog_meaning.proofs.Common.{◌≡◌, ◌+◌, ◌*◌, take, names_of, senses, all_faults, least}
use Rattle.vlog_meaning.proofs.faults.+fault.Given as goal

abbrev pub decreases-fault_in : goal.decreases-fault_in
decreases-fault_in l = 4 * goal.size-fault_in l

abbrev pub decreases-constant_fault : goal.decreases-constant_fault
decreases-constant_fault l = 4 * goal.size-constant_fault l + 1

abbrev pub decreases-fault_in_call : goal.decreases-fault_in_call
decreases-fault_in_call l = 4 * goal.size-fault_in_call l + 3

abbrev pub decreases-fault_in_all : goal.decreases-fault_in_all
decreases-fault_in_all l = 4 * goal.size-fault_in_all l + 2

abbrev pub invariant-fault_in_all-loop-expr : goal.invariant-fault_in_all-loop-expr
invariant-fault_in_all-loop-expr l = l.found ≡ least (all_faults (senses (names_of l.scope) (take l.expr-index l.exprs)))
