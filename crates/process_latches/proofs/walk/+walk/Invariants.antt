use Rattle.process_latches.proofs.Common.{◌≡◌, ◌≤◌, ◌+◌, ◌*◌, map, take, IsSome, Names, names_of, item_steps, steps_of, labelled, AreSized, loop_of, AlikeBut}
use Rattle.vlog_syntax.specs.declared.stmt.Stmt.TheViews.{size-Stmt}
use Rattle.process_latches.proofs.Bodies.{Continues as Bodies}
use Rattle.process_latches.proofs.Choosing.{ArmsSoFar}
use Rattle.process_latches.proofs.Turning.{Leads}
use Rattle.process_latches.proofs.Walking.{Continues}
use Rattle.process_latches.proofs.walk.+walk.Given as goal

abbrev pub decreases-mark : goal.decreases-mark
decreases-mark l = 8 * goal.size-mark l

abbrev pub decreases-mark_block : goal.decreases-mark_block
decreases-mark_block l = 8 * goal.size-mark_block l + 4

abbrev pub decreases-mark_case : goal.decreases-mark_case
decreases-mark_case l = 8 * goal.size-mark_case l + 6

abbrev pub decreases-mark_bodies : goal.decreases-mark_bodies
decreases-mark_bodies l = 8 * goal.size-mark_bodies l + 4

abbrev pub decreases-mark_last : goal.decreases-mark_last
decreases-mark_last l = 8 * goal.size-mark_last l + 4

abbrev pub decreases-mark_arms : goal.decreases-mark_arms
decreases-mark_arms l = 8 * goal.size-mark_arms l + 4

abbrev pub decreases-mark_loop : goal.decreases-mark_loop
decreases-mark_loop l = 8 * size-Stmt l.body.now + 6

abbrev pub decreases-mark_turns : goal.decreases-mark_turns
decreases-mark_turns l = 8 * size-Stmt l.body.now + 5

abbrev pub decreases-mark_each_turn : goal.decreases-mark_each_turn
decreases-mark_each_turn l = 8 * size-Stmt l.body.now + 4

abbrev pub decreases-mark_turn : goal.decreases-mark_turn
decreases-mark_turn l = 8 * size-Stmt l.body.now + 3

abbrev pub invariant-mark_block-loop-stmt : goal.invariant-mark_block-loop-stmt
invariant-mark_block-loop-stmt l = Continues (names_of l.fn.scope) l.fn.body l.stmt-index l.fn.marks l.marks × (names_of l.scope ≡ names_of l.fn.scope)

abbrev pub invariant-mark_bodies-loop-item : goal.invariant-mark_bodies-loop-item
invariant-mark_bodies-loop-item l = Bodies (names_of l.fn.scope) l.fn.items l.item-index l.fn.marks l.marks × (names_of l.scope ≡ names_of l.fn.scope)

abbrev pub invariant-mark_arms-loop-place : goal.invariant-mark_arms-loop-place
invariant-mark_arms-loop-place l = ArmsSoFar (names_of l.fn.scope) (labelled (map item_steps (take l.place l.items))) l.fn.last l.met × (names_of l.scope ≡ names_of l.fn.scope) × (l.place ≤ l.fn.before)

abbrev pub invariant-mark_each_turn-loop-turn : goal.invariant-mark_each_turn-loop-turn
invariant-mark_each_turn-loop-turn l = ((names : Names) → AlikeBut l.fn.header.name.now.name (names_of l.fn.scope) names → Leads (loop_of l.fn.header) (steps_of l.fn.body) names l.turn l.fn.first l.word l.fn.marks l.marks) × AlikeBut l.fn.header.name.now.name (names_of l.scope) (names_of l.fn.scope) × IsSome (names_of l.scope l.fn.header.name.now.name) × AreSized (names_of l.scope) × (l.word.width ≡ l.fn.header.width)
