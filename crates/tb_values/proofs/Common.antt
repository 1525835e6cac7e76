-- What several files here take from the specs of this crate and from the crates below.
pub use Rattle.std.proofs.Common.{[], ◌++◌, ◌+◌, ◌<◌, ◌==◌, ◌||◌, ◌∙◌, ◌∷◌, ◌≡◌, ◌≤◌, Bool, List, add-one, ap, append-nil, append_assoc, arith, drop, false, get_or, length, map, refl, subst, suc, sym}
pub use Rattle.std.proofs.Common.{take, true, zero, ℕ}
pub use Rattle.std.specs.Prelude.{None, Option, Some}
pub use Rattle.mcy_base.specs.declared.span.Span.{Span}
pub use Rattle.rand_pcg.specs.Lcg.{Lcg}
pub use Rattle.vlog_meaning.specs.Functions.{function_of}
pub use Rattle.vlog_meaning.specs.Scopes.{Names, Store, names_of, store_of}
pub use Rattle.vlog_meaning.specs.Senses.{IsContext, IsWhole, Sense, all_faults, all_features, all_reads, all_signals, call_faults, call_shape, call_signals, call_value, call_zeros, constant_faults}
pub use Rattle.vlog_meaning.specs.Senses.{name_faults, name_signals, sense, senses, step, total_width}
pub use Rattle.vlog_meaning.specs.declared.function.Function.{Function}
pub use Rattle.vlog_meaning.specs.declared.function.Function.TheVariants.{Clog2, Random, Signed, Time, Unsigned}
pub use Rattle.vlog_syntax.specs.declared.expr.Expr.{Expr}
pub use Rattle.vlog_syntax.specs.declared.expr.Expr.TheFolds.{fold-roll-Expr, ind-Expr, map-Expr}
pub use Rattle.vlog_syntax.specs.declared.expr.Expr.TheOpen.{Expr-F}
pub use Rattle.vlog_syntax.specs.declared.expr.Expr.TheViews.{roll-Expr}
pub use Rattle.vlog_syntax.specs.declared.identifier.Identifier.{Identifier}
pub use Rattle.vlog_syntax.specs.declared.identifier.Number.{Number}
pub use Rattle.vlog_syntax.specs.declared.operator.UnaryOperator.{UnaryOperator}
pub use Rattle.tb_values.specs.Draws.{Drawn, all_drawn, any_of, call_drawn, changes, changes_step, drawn, drawn_step, is_changing, number_sense, random_shape, time_shape}
pub use Rattle.tb_values.specs.Laws.{OthersStay, ShapesStay}
