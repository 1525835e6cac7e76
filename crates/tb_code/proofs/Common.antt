-- What several files here take from the specs of this crate and from the crates below.
pub use Rattle.std.proofs.Common.{[], ◌&&◌, ◌++◌, ◌+◌, ◌<◌, ◌||◌, ◌∙◌, ◌∷◌, ◌≡◌, ◌≤◌, ◌⊎◌, All, Bool, List, None, Option, Some, ap, append-nil, append_assoc, arith, codes, drop, false, get_or}
pub use Rattle.std.proofs.Common.{if◌then◌else◌, inl, inr, length, length-append, map, refl, slice_get, suc, sym, take, true, zero, ℕ}
pub use Rattle.std.proofs.lemmas.List.{length_push, map-append, take_more}
pub use Rattle.std.proofs.lemmas.List.Elements.{All-append, All-cons, All-get_or, All-head, All-nil, All-push, All-tail, All-weaker}
pub use Rattle.std.proofs.lemmas.Option.{get_or_from_slice_get, slice_get_within}
pub use Rattle.tb_machine.specs.Nodes.{BodyBelow, PartsBelow, Tree, choice_at, choice_do, choice_labels, node_step, optional_do, tree_of}
pub use Rattle.tb_machine.specs.Steps.{Do, Goes, Meaning, Work, body_of, event_of, execute, item_at, labels_of}
pub use Rattle.tb_machine.specs.Worlds.{World}
pub use Rattle.tb_machine.specs.declared.node.Choice.{Choice}
pub use Rattle.tb_machine.specs.declared.node.Node.{Node}
pub use Rattle.vlog_syntax.specs.declared.identifier.Identifier.{Identifier}
pub use Rattle.vlog_syntax.specs.declared.stmt.Argument.{Argument}
pub use Rattle.vlog_syntax.specs.declared.stmt.CaseItem.{CaseItem}
pub use Rattle.vlog_syntax.specs.declared.stmt.Stmt.{Stmt, out-Stmt, out-roll-Stmt, roll-Stmt}
pub use Rattle.vlog_syntax.specs.declared.stmt.Stmt.TheOpen.{Stmt-F}
pub use Rattle.tb_code.specs.Codes.{Adds, AreCodeOf, Holds, IsWhole, Pushed, part_number, part_of}
pub use Rattle.tb_code.specs.Tests.{NodePasses, Passes, Tests, all_labels_pass, all_of, item_passes, item_step, labels_pass, passes, passes_step, task_passes}
