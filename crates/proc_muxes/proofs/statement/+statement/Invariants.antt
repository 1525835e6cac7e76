use Rattle.proc_muxes.proofs.Common.{◌≡◌, ◌+◌, ◌*◌, [], map, take, length, IsSome, names_of, item_steps, Selection, steps_of, in_turn, labelled, Building, Evaluates, IsOf, loop_of, AlikeBut, IsLaid}
use Rattle.proc_muxes.proofs.Common.{Opened, Keeps, work, Built}
use Rattle.vlog_syntax.specs.declared.stmt.Stmt.TheViews.{size-Stmt}
use Rattle.proc_muxes.proofs.Closing.{Closing, case-of, case-arms}
use Rattle.proc_muxes.proofs.Turning.{Turned}
use Rattle.proc_muxes.proofs.statement.+statement.Given as goal

abbrev pub decreases-build_statement : goal.decreases-build_statement
decreases-build_statement l = 8 * goal.size-build_statement l

abbrev pub decreases-build_block : goal.decreases-build_block
decreases-build_block l = 8 * goal.size-build_block l + 4

abbrev pub decreases-build_else : goal.decreases-build_else
decreases-build_else l = 8 * goal.size-build_else l + 4

abbrev pub decreases-build_case : goal.decreases-build_case
decreases-build_case l = 8 * goal.size-build_case l + 6

abbrev pub decreases-build_arms : goal.decreases-build_arms
decreases-build_arms l = 8 * goal.size-build_arms l + 4

abbrev pub decreases-build_last : goal.decreases-build_last
decreases-build_last l = 8 * goal.size-build_last l + 4

abbrev pub decreases-build_loop : goal.decreases-build_loop
decreases-build_loop l = 8 * size-Stmt l.body.now + 6

abbrev pub decreases-build_turns : goal.decreases-build_turns
decreases-build_turns l = 8 * size-Stmt l.body.now + 5

abbrev pub decreases-build_each_turn : goal.decreases-build_each_turn
decreases-build_each_turn l = 8 * size-Stmt l.body.now + 4

abbrev pub decreases-build_turn : goal.decreases-build_turn
decreases-build_turn l = 8 * size-Stmt l.body.now + 3

abbrev pub invariant-build_block-loop-stmt : goal.invariant-build_block-loop-stmt
invariant-build_block-loop-stmt l = record {
  built : Built (in_turn (map steps_of (take l.stmt-index l.fn.body)) (names_of l.fn.scope)) (work l.fn.builder l.fn.variables) (work l.builder l.variables) l.changes;
  places : length l.variables ≡ length l.builder.signals;
  kept : names_of l.scope ≡ names_of l.fn.scope;
}

abbrev pub invariant-build_arms-loop-place : goal.invariant-build_arms-loop-place
invariant-build_arms-loop-place l = record {
  opened : (c : Selection) → IsOf c (names_of l.fn.scope) l.selector.kind l.selector.size → Opened c l.selector.bits (labelled (map item_steps (take l.place l.items))) l.arms (work l.fn.builder l.fn.variables) (work l.builder l.variables);
  keeps : Keeps [] (work l.fn.builder l.fn.variables) (work l.builder l.variables);
  places : length l.variables ≡ length l.builder.signals;
  kept : names_of l.scope ≡ names_of l.fn.scope;
}

abbrev pub invariant-build_case-loop-arm : goal.invariant-build_case-loop-arm
invariant-build_case-loop-arm l = record {
  closing : (mid : Building) × Evaluates (names_of l.fn.scope) l.selector l.selected.size l.fn.builder mid l.selected.bits × Closing (case-of (names_of l.fn.scope) l.fn.kind l.selector l.items) l.selected.bits (case-arms (names_of l.fn.scope) l.fn.kind l.selector l.items) (record (work l.fn.builder l.fn.variables) { building = mid }) (work l.builder l.variables) l.arms l.changes × IsLaid (names_of l.fn.scope) l.selector l.selected.size l.fn.builder mid l.selected.bits;
  places : length l.variables ≡ length l.builder.signals;
  kept : names_of l.scope ≡ names_of l.fn.scope;
}

abbrev pub decreases-build_case-loop-arm : goal.decreases-build_case-loop-arm
decreases-build_case-loop-arm l = length l.arms

abbrev pub invariant-build_each_turn-loop-turn : goal.invariant-build_each_turn-loop-turn
invariant-build_each_turn-loop-turn l = record {
  turned : Turned (loop_of l.fn.header) (steps_of l.fn.body) (names_of l.fn.scope) l.turn l.fn.first l.word (work l.fn.builder l.fn.variables) (work l.builder l.variables) l.changes;
  alike : AlikeBut l.fn.header.name.now.name (names_of l.scope) (names_of l.fn.scope);
  declared : IsSome (names_of l.scope l.fn.header.name.now.name);
  width : l.word.width ≡ l.fn.header.width;
  places : length l.variables ≡ length l.builder.signals;
}
