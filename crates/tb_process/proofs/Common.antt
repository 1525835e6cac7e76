-- What several files here take from the specs of this crate and from the crates below.
pub use Rattle.std.proofs.Common.{[], ◌++◌, ◌+◌, ◌<◌, ◌∙◌, ◌∷◌, ◌≡◌, ◌≤◌, Bool, IfOk, List, None, OnOk, Option, Result, Some, ap, append_assoc, arith, codes, drop, false, get_or, if◌then◌else◌}
pub use Rattle.std.proofs.Common.{length, map, refl, set, subst, suc, sym, take, true, zero, ℕ}
pub use Rattle.std.proofs.lemmas.List.{drop_more, length-set, map-append, take_all, take_more, take_more_set, with_items_is}
pub use Rattle.std.proofs.lemmas.List.Elements.{All-get_or, All-push}
pub use Rattle.std.proofs.lemmas.Result.{IfOk-weaker}
pub use Rattle.std.specs.List.{All}
pub use Rattle.cycle_sim.specs.Simulated.{Simulated, settled_nets}
pub use Rattle.netlist_core.specs.Checked.{Plan}
pub use Rattle.tb_bench.specs.Runnable.{FitsDesign, IsBelow}
pub use Rattle.tb_bench.specs.Settings.{begun, names, setting_of, widths, with_clock}
pub use Rattle.tb_bench.specs.declared.parts.Parts.{Parts}
pub use Rattle.tb_bench.specs.declared.parts.Waiting.{Waiting}
pub use Rattle.tb_evaluator.specs.Meanings.{CanAnswer, CanPerform, meaning}
pub use Rattle.tb_machine.specs.Machine.{AreRan, StackBelow, StacksBelow, all_suspended, suspended}
pub use Rattle.tb_machine.specs.Nodes.{IsCode, Tree, tree_of}
pub use Rattle.tb_machine.specs.Phases.{Finish, Going, IsEnd, IsPhaseOf, Limit, Setting, Settles, State, active, active_part, after_edge, all_woken, before, event_of_phase, max_statements, waits_for}
pub use Rattle.tb_machine.specs.Phases.{woken}
pub use Rattle.tb_machine.specs.Steps.{Again, Do, Finished, Finishes, Goes, Loop, Meaning, Pauses, Ran, Step, Suspended, TooLong, Turns, Waits, Work, assign, assign_due, execute, goes_on, labels_of}
pub use Rattle.tb_machine.specs.Steps.{step}
pub use Rattle.tb_machine.specs.Worlds.{World, all_applied, scheduled}
pub use Rattle.tb_machine.specs.declared.event.Event.{Event}
pub use Rattle.tb_machine.specs.declared.machine.Ended.{Ended}
pub use Rattle.tb_machine.specs.declared.node.Node.{Node}
pub use Rattle.tb_machine.specs.declared.node.Process.{Process}
pub use Rattle.vlog_meaning.specs.Scopes.{Names}
pub use Rattle.tb_process.specs.Running.{Follows, IsOf, Running, Stands, next_of, running}
