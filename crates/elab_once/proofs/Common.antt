-- What several files here take from the specs of this crate and from the crates below.
pub use Rattle.std.proofs.Common.{[], ◌++◌, ◌+◌, ◌<◌, ◌∙◌, ◌∷◌, ◌≡◌, ◌⊎◌, Bool, IsTrue, List, None, Option, Some, ap, arith, false, inl, inr, length, map, refl, slice_get, subst, suc, sym, true, ℕ}
pub use Rattle.std.specs.Prelude.{if◌then◌else◌, option_map, option_to_list, slice_index_or}
pub use Rattle.elab_items.proofs.Noting.{at_some, builds_signals}
pub use Rattle.elab_items.specs.Items.{Builds, Refuses, RefusesProcess, RefusesSides, Stands, found_in, wrong_value}
pub use Rattle.elab_items.specs.Starts.{names_at, start_error}
pub use Rattle.elab_items.specs.Timed.{BuildsAll, BuildsTimed, FailsSome, FailsTimed, IsSooner, RefusesTimed}
pub use Rattle.elab_items.specs.declared.error.Reason.{Reason}
pub use Rattle.elab_items.specs.declared.error.Reason.TheVariants.{Found, Listed, Start}
pub use Rattle.elab_proc.proofs.Forms.{left_once}
pub use Rattle.elab_proc.proofs.Order.{first_once}
pub use Rattle.elab_proc.specs.declared.refusal.Refusal.{Refusal}
pub use Rattle.flat_assigns.specs.Assignments.{IsRefusal, assignment, assignment_faults, first_refusal}
pub use Rattle.flat_instances.specs.Places.{Place}
pub use Rattle.flat_instances.specs.declared.item.FlatItem.{FlatItem}
pub use Rattle.flat_runs.specs.Meanings.{Meaning, Writes}
pub use Rattle.mcy_base.specs.declared.span.Span.{Span}
pub use Rattle.net_builder.specs.Building.{Building, IsSignal, signal}
pub use Rattle.netlist_core.specs.declared.bit.Bit.{Bit}
pub use Rattle.process_cells.specs.Items.{AddsMeaning, Widths, widths_in}
pub use Rattle.vlog_effects.specs.LeftSides.{Part, parts_of}
pub use Rattle.vlog_effects.specs.Steps.{Arm, Arms, Assign, Assigning, Case, Choose, Done, Otherwise, Refuse, Steps, steps_of}
pub use Rattle.vlog_meaning.specs.Answers.{least}
pub use Rattle.vlog_meaning.specs.Scopes.{Names}
pub use Rattle.vlog_meaning.specs.declared.scope.Decl.{Decl}
pub use Rattle.vlog_meaning.specs.declared.scope.Decl.TheVariants.{Constant, Signal}
pub use Rattle.vlog_syntax.specs.declared.expr.Expr.{Expr}
pub use Rattle.vlog_syntax.specs.declared.left_side.LeftSide.{LeftSide}
pub use Rattle.vlog_syntax.specs.declared.stmt.Stmt.{Stmt, out-Stmt}
pub use Rattle.elab_once.specs.Alike.{AreAlike}
pub use Rattle.elab_once.specs.Laws.{BeginAlike, BuiltAlike, BuiltOnce, BuiltOrRefused, HasOneMeaning, ItemsAreLaid, RefusedOnce, StopsOnce}
