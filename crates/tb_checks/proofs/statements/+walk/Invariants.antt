use Rattle.tb_checks.proofs.Common.{◌+◌, ◌*◌, take, flat_map, CaseItem, IsFirst, stmt_faults, item_faults, rules_in}
use Rattle.tb_checks.proofs.statements.+walk.Given as goal

abbrev pub decreases-statement_fault : goal.decreases-statement_fault
decreases-statement_fault l = 8 * goal.size-statement_fault l

abbrev pub decreases-statements_fault : goal.decreases-statements_fault
decreases-statements_fault l = 8 * goal.size-statements_fault l + 1

abbrev pub decreases-items_fault : goal.decreases-items_fault
decreases-items_fault l = 8 * goal.size-items_fault l + 2

abbrev pub decreases-item_fault : goal.decreases-item_fault
decreases-item_fault l = 8 * goal.size-item_fault l + 1

abbrev pub decreases-case_statement_fault : goal.decreases-case_statement_fault
decreases-case_statement_fault l = 8 * goal.size-case_statement_fault l + 3

abbrev pub decreases-guarded_fault : goal.decreases-guarded_fault
decreases-guarded_fault l = 8 * goal.size-guarded_fault l + 1

abbrev pub decreases-fault_behind : goal.decreases-fault_behind
decreases-fault_behind l = 8 * goal.size-fault_behind l + 1

abbrev pub decreases-loop_fault : goal.decreases-loop_fault
decreases-loop_fault l = 8 * goal.size-loop_fault l + 1

abbrev pub invariant-statements_fault-loop-stmt : goal.invariant-statements_fault-loop-stmt
invariant-statements_fault-loop-stmt l = IsFirst (flat_map (stmt_faults (rules_in l.rules)) (take l.stmt-index l.body)) l.found

abbrev pub invariant-items_fault-loop-item : goal.invariant-items_fault-loop-item
invariant-items_fault-loop-item l = IsFirst (flat_map (λ (i : CaseItem). (item_faults (rules_in l.rules) i).body) (take l.item-index l.items)) l.found
