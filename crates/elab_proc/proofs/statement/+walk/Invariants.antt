use Rattle.elab_proc.proofs.Common.{◌≡◌, ◌+◌, ◌-◌, ◌*◌, map, take, drop, IsSome, flat_map, CaseItem, Stmt, size-Stmt, Names, names_of, item_steps, Selection, steps_of, default_of, turns, max_turns}
use Rattle.elab_proc.proofs.Common.{IsFirst, body_in, step_refusals, AreSized, loop_of, AlikeBut, Splits}
use Rattle.elab_proc.proofs.StepLemmas.{left_refusals}
use Rattle.elab_proc.proofs.statement.+walk.Given as goal

abbrev pub decreases-statement_refusal : goal.decreases-statement_refusal
decreases-statement_refusal l = 8 * goal.size-statement_refusal l

abbrev pub decreases-block_refusal : goal.decreases-block_refusal
decreases-block_refusal l = 8 * goal.size-block_refusal l + 4

abbrev pub decreases-case_refusal : goal.decreases-case_refusal
decreases-case_refusal l = 8 * goal.size-case_refusal l + 6

abbrev pub decreases-bodies_refusal : goal.decreases-bodies_refusal
decreases-bodies_refusal l = 8 * goal.size-bodies_refusal l + 4

abbrev pub decreases-items_refusal : goal.decreases-items_refusal
decreases-items_refusal l = 8 * goal.size-items_refusal l + 5

abbrev pub decreases-default_refusal : goal.decreases-default_refusal
decreases-default_refusal l = 8 * goal.size-default_refusal l + 4

abbrev pub decreases-loop_refusal : goal.decreases-loop_refusal
decreases-loop_refusal l = 8 * size-Stmt l.body.now + 6

abbrev pub decreases-turns_refusal : goal.decreases-turns_refusal
decreases-turns_refusal l = 8 * size-Stmt l.body.now + 5

abbrev pub decreases-each_turn_refusal : goal.decreases-each_turn_refusal
decreases-each_turn_refusal l = 8 * size-Stmt l.body.now + 4

abbrev pub decreases-turn_refusal : goal.decreases-turn_refusal
decreases-turn_refusal l = 8 * size-Stmt l.body.now + 3

abbrev pub invariant-block_refusal-loop-stmt : goal.invariant-block_refusal-loop-stmt
invariant-block_refusal-loop-stmt l = IsFirst (flat_map (λ (s : Stmt). step_refusals l.fn.walk.is_combinational l.fn.walk.written.now (steps_of s (names_of l.fn.scope))) (take l.stmt-index l.fn.body)) l.found × (names_of l.scope ≡ names_of l.fn.scope)

abbrev pub invariant-bodies_refusal-loop-item : goal.invariant-bodies_refusal-loop-item
invariant-bodies_refusal-loop-item l = IsFirst (flat_map (λ (i : CaseItem). step_refusals l.fn.walk.is_combinational l.fn.walk.written.now (steps_of (body_in i) (names_of l.fn.scope))) (take l.item-index l.fn.items)) l.found × (names_of l.scope ≡ names_of l.fn.scope)

abbrev pub invariant-items_refusal-loop-item : goal.invariant-items_refusal-loop-item
invariant-items_refusal-loop-item l = ((c : Selection) → c.kind ≡ l.fn.kind → c.width ≡ l.fn.width → c.names ≡ names_of l.fn.scope → Splits (left_refusals l.fn.walk.is_combinational l.fn.walk.written.now c l.fn.items (default_of (map item_steps l.fn.items))) (left_refusals l.fn.walk.is_combinational l.fn.walk.written.now c (drop l.item-index l.fn.items) (default_of (map item_steps l.fn.items))) l.found) × (names_of l.scope ≡ names_of l.fn.scope)

abbrev pub invariant-default_refusal-loop-item : goal.invariant-default_refusal-loop-item
invariant-default_refusal-loop-item l = (default_of (map item_steps l.fn.items) ≡ default_of (map item_steps (drop l.item-index l.fn.items))) × (names_of l.scope ≡ names_of l.fn.scope)

abbrev pub invariant-each_turn_refusal-loop-turn : goal.invariant-each_turn_refusal-loop-turn
invariant-each_turn_refusal-loop-turn l = ((names : Names) → AlikeBut l.fn.header.name.now.name (names_of l.fn.scope) names → Splits (step_refusals l.fn.walk.is_combinational l.fn.walk.written.now (turns max_turns (loop_of l.fn.header) (steps_of l.fn.body) names l.fn.first.bits)) (step_refusals l.fn.walk.is_combinational l.fn.walk.written.now (turns (max_turns - l.turn) (loop_of l.fn.header) (steps_of l.fn.body) names l.word.bits)) l.found) × AlikeBut l.fn.header.name.now.name (names_of l.scope) (names_of l.fn.scope) × IsSome (names_of l.scope l.fn.header.name.now.name) × AreSized (names_of l.scope) × (l.word.width ≡ l.fn.header.width)
