-- What several files here take from the specs of this crate and from the crates below.
pub use Rattle.std.proofs.Common.{[], ◌%◌, ◌*◌, ◌++◌, ◌+◌, ◌-◌, ◌/◌, ◌<◌, ◌^◌, ◌∙◌, ◌∷◌, ◌≡◌, ◌≤◌, Bool, List, Option, Some, add-one, ap, arith, bit_and, drop, drop-cons, false, get_or, if◌then◌else◌}
pub use Rattle.std.proofs.Common.{length, map, refl, set, slice_get, slice_index, subst, suc, sym, take, true, zero, ℕ}
pub use Rattle.std.proofs.lemmas.List.Elements.{All-append, All-set, All-tail}
pub use Rattle.std.proofs.lemmas.Nat.{and_mask, mul-add-lt, one_shl, pow-add, pow_pos, shl_whole, shr_below}
pub use Rattle.std.specs.List.{All}
pub use Rattle.vlog_syntax.specs.declared.expr.Expr.{Expr}
pub use Rattle.vlog_syntax.specs.declared.stmt.Assignment.{Assignment}
pub use Rattle.vlog_syntax.specs.declared.stmt.Stmt.{Stmt}
pub use Rattle.tb_machine.specs.Machine.{IsRan, IsStep, StackBelow, StacksBelow, all_suspended, suspended}
pub use Rattle.tb_machine.specs.Nodes.{FramesBelow, IsCode, Tree, choice_at, choice_do, choice_labels, frame_number, loop_work, node_step, optional_do, tree_of, work_of, works}
pub use Rattle.tb_machine.specs.Phases.{Ending, Finish, Going, IsEnd, IsPhase, IsPhaseOf, Limit, Setting, State, active_part, all_woken, before, woken}
pub use Rattle.tb_machine.specs.Steps.{Do, Finished, Finishes, Goes, Meaning, Pauses, Ran, Step, Suspended, TooLong, Turns, Waits, Work, assign, goes_on, step}
pub use Rattle.tb_machine.specs.Worlds.{Fits, World, all_applied, applied, replaced}
pub use Rattle.tb_machine.specs.declared.event.Event.{Event}
pub use Rattle.tb_machine.specs.declared.node.Frame.{Frame}
pub use Rattle.tb_machine.specs.declared.node.Node.{Node}
