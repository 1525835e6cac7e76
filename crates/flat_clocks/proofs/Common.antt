-- What several files here take from the specs of this crate and from the crates below.
pub use Rattle.std.proofs.Common.{[], ◌&&◌, ◌*◌, ◌++◌, ◌+◌, ◌<◌, ◌∙◌, ◌∷◌, ◌≡◌, ◌≤◌, Bool, List, add-one, ap, append_assoc, arith, cond, drop, false, get_or, length, map, nat_eq, not, refl, subst}
pub use Rattle.std.proofs.Common.{suc, sym, take, true, zero, ℕ}
pub use Rattle.std.proofs.Math.Path.{fun_ext}
pub use Rattle.std.proofs.lemmas.Result.{IfOk-weaker}
pub use Rattle.std.specs.List.{flat_map}
pub use Rattle.std.specs.Option.{option_map}
pub use Rattle.std.specs.Prelude.{None, Option, Some, if◌then◌else◌, is_some, slice_get}
pub use Rattle.elab_proc.specs.Order.{IsFirst}
pub use Rattle.elab_proc.specs.declared.refusal.Refusal.{Refusal}
pub use Rattle.flat_instances.specs.declared.item.FlatItem.{FlatItem}
pub use Rattle.flat_items.specs.Flattened.{Flat}
pub use Rattle.flat_items.specs.Views.{flat_of}
pub use Rattle.flat_scopes.specs.declared.signal.Signal.{Signal}
pub use Rattle.mcy_base.specs.declared.span.Span.{Span}
pub use Rattle.vlog_effects.specs.Steps.{name_alone}
pub use Rattle.vlog_meaning.specs.Scopes.{Names, names_of, with_name}
pub use Rattle.vlog_syntax.specs.declared.expr.Expr.{Expr}
pub use Rattle.vlog_syntax.specs.declared.identifier.Identifier.{Identifier}
pub use Rattle.vlog_syntax.specs.declared.identifier.Number.{Number}
pub use Rattle.vlog_syntax.specs.declared.left_side.LeftSide.{LeftSide, out-LeftSide}
pub use Rattle.vlog_syntax.specs.declared.operator.BinaryOperator.{BinaryOperator}
pub use Rattle.vlog_syntax.specs.declared.operator.UnaryOperator.{UnaryOperator}
pub use Rattle.vlog_syntax.specs.declared.stmt.Argument.{Argument}
pub use Rattle.vlog_syntax.specs.declared.stmt.Assignment.{Assignment}
pub use Rattle.vlog_syntax.specs.declared.stmt.CaseItem.{CaseItem, out-CaseItem}
pub use Rattle.vlog_syntax.specs.declared.stmt.CaseKind.{CaseKind}
pub use Rattle.vlog_syntax.specs.declared.stmt.EventControl.{EventControl}
pub use Rattle.vlog_syntax.specs.declared.stmt.Stmt.{Stmt}
pub use Rattle.flat_clocks.specs.Clocks.{Clocks, Sources, clock_names, first_clock, names_at, own, passed_on, sources, with_item, with_items, with_source}
pub use Rattle.flat_clocks.specs.Reads.{ClockNames, Read, Reading, all_read, argument_reads, assignment_reads, else_reads, expr_reads, expr_step, form_reads, in_turn, inside, item_reads, item_step}
pub use Rattle.flat_clocks.specs.Reads.{left_reads, left_step, lefts_read, name_reads, read, stmt_reads, stmt_step, turn_reads, values_read}
pub use Rattle.flat_clocks.specs.Views.{but, clocks_in, names_in, source_or, sources_in}
