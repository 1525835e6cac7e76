use Rattle.loop_turns.proofs.Common.{◌≡◌, ◌+◌, ◌*◌, IsSome, size-Stmt, Names, names_of, AreSized, loop_of, AlikeBut, item_turns, turns_of}
use Rattle.loop_turns.proofs.Turning.{Leads}
use Rattle.loop_turns.proofs.Walking.{LeftBefore}
use Rattle.loop_turns.proofs.walk.+count.Given as goal

abbrev pub decreases-statement_left : goal.decreases-statement_left
decreases-statement_left l = 8 * goal.size-statement_left l

abbrev pub decreases-then_left : goal.decreases-then_left
decreases-then_left l = 8 * goal.size-then_left l + 4

abbrev pub decreases-block_left : goal.decreases-block_left
decreases-block_left l = 8 * goal.size-block_left l + 4

abbrev pub decreases-items_left : goal.decreases-items_left
decreases-items_left l = 8 * goal.size-items_left l + 4

abbrev pub decreases-loop_left : goal.decreases-loop_left
decreases-loop_left l = 8 * size-Stmt l.body.now + 6

abbrev pub decreases-turns_left : goal.decreases-turns_left
decreases-turns_left l = 8 * size-Stmt l.body.now + 5

abbrev pub decreases-each_turn_left : goal.decreases-each_turn_left
decreases-each_turn_left l = 8 * size-Stmt l.body.now + 4

abbrev pub decreases-turn_left : goal.decreases-turn_left
decreases-turn_left l = 8 * size-Stmt l.body.now + 3

abbrev pub decreases-turn_taken : goal.decreases-turn_taken
decreases-turn_taken l = 8 * size-Stmt l.body.now + 2

abbrev pub invariant-block_left-loop-stmt : goal.invariant-block_left-loop-stmt
invariant-block_left-loop-stmt l = LeftBefore turns_of (names_of l.fn.scope) l.fn.body l.stmt-index l.fn.left l.rest × (names_of l.scope ≡ names_of l.fn.scope)

abbrev pub invariant-items_left-loop-item : goal.invariant-items_left-loop-item
invariant-items_left-loop-item l = LeftBefore item_turns (names_of l.fn.scope) l.fn.items l.item-index l.fn.left l.rest × (names_of l.scope ≡ names_of l.fn.scope)

abbrev pub invariant-each_turn_left-loop-turn : goal.invariant-each_turn_left-loop-turn
invariant-each_turn_left-loop-turn l = ((names : Names) → AlikeBut l.fn.header.name.now.name (names_of l.fn.scope) names → Leads (loop_of l.fn.header) (turns_of l.fn.body) names l.turn l.fn.first l.word l.fn.left l.rest) × AlikeBut l.fn.header.name.now.name (names_of l.scope) (names_of l.fn.scope) × IsSome (names_of l.scope l.fn.header.name.now.name) × AreSized (names_of l.scope) × (l.word.width ≡ l.fn.header.width)
