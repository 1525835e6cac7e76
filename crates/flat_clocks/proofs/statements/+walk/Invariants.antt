use Rattle.flat_clocks.proofs.Common.{◌+◌, ◌*◌, take, flat_map, CaseItem, Stmt, IsFirst, stmt_reads, item_reads, names_in}
use Rattle.flat_clocks.proofs.statements.+walk.Given as goal

abbrev pub decreases-stmt_read : goal.decreases-stmt_read
decreases-stmt_read l = 8 * goal.size-stmt_read l

abbrev pub decreases-block_read : goal.decreases-block_read
decreases-block_read l = 8 * goal.size-block_read l + 1

abbrev pub decreases-items_read : goal.decreases-items_read
decreases-items_read l = 8 * goal.size-items_read l + 2

abbrev pub decreases-item_read : goal.decreases-item_read
decreases-item_read l = 8 * goal.size-item_read l + 1

abbrev pub decreases-case_read : goal.decreases-case_read
decreases-case_read l = 8 * goal.size-case_read l + 3

abbrev pub decreases-guarded_read : goal.decreases-guarded_read
decreases-guarded_read l = 8 * goal.size-guarded_read l + 1

abbrev pub decreases-read_behind : goal.decreases-read_behind
decreases-read_behind l = 8 * goal.size-read_behind l + 1

abbrev pub decreases-loop_read : goal.decreases-loop_read
decreases-loop_read l = 8 * goal.size-loop_read l + 2

abbrev pub decreases-turn_read : goal.decreases-turn_read
decreases-turn_read l = 8 * goal.size-turn_read l + 1

abbrev pub invariant-block_read-loop-stmt : goal.invariant-block_read-loop-stmt
invariant-block_read-loop-stmt l = IsFirst (flat_map (λ (s : Stmt). stmt_reads s (names_in l.names)) (take l.stmt-index l.body)) l.found

abbrev pub invariant-items_read-loop-item : goal.invariant-items_read-loop-item
invariant-items_read-loop-item l = IsFirst (flat_map (λ (i : CaseItem). item_reads i (names_in l.names)) (take l.item-index l.items)) l.found
