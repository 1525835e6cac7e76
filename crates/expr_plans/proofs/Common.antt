-- What several files here take from the specs of this crate and from the crates below.
pub use Rattle.std.proofs.Common.{[], ◌%◌, ◌&&◌, ◌*◌, ◌++◌, ◌+◌, ◌-◌, ◌/◌, ◌<◌, ◌^◌, ◌∙◌, ◌∷◌, ◌≡◌, ◌≤◌, Bool, List, add-one, ap, append_assoc, arith, false, get_or, length, map, nat_le, nat_lt, pos}
pub use Rattle.std.proofs.Common.{refl, subst, suc, sym, take, true, zero, ℕ}
pub use Rattle.mcy_base.specs.declared.span.Span.{Span}
pub use Rattle.vlog_meaning.proofs.Refusals.{least_empty, pair_first}
pub use Rattle.vlog_meaning.specs.Answers.{earlier, least}
pub use Rattle.vlog_meaning.specs.Scopes.{Names, Store, decl_low, names_of}
pub use Rattle.vlog_meaning.specs.Senses.{Sense, binary_features, fault, index_features, is_empty, sense, step}
pub use Rattle.vlog_meaning.specs.declared.fault.Fault.{Fault}
pub use Rattle.vlog_meaning.specs.declared.shapes.Shape.{Shape}
pub use Rattle.vlog_syntax.specs.declared.expr.Expr.{Expr}
pub use Rattle.vlog_syntax.specs.declared.expr.Expr.TheFolds.{fold-Expr, fold-roll-Expr, ind-Expr, map-Expr}
pub use Rattle.expr_plans.specs.Made.{Plan, all_unsupported, base_features, index_width, plan, plan_step, plans}
