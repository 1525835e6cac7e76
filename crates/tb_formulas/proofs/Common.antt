-- What several files here take from the specs of this crate and from the crates below.
pub use Rattle.std.proofs.Common.{[], ◌%◌, ◌*◌, ◌+◌, ◌/◌, ◌<◌, ◌==◌, ◌^◌, ◌∙◌, ◌∷◌, ◌≡◌, ◌≤◌, Bool, List, Option, Some, add-one, ap, arith, drop, false, get_or, length, map, negsuc, pos, refl, rules}
pub use Rattle.std.proofs.Common.{slice_index, subst, suc, sym, take, true, zero, ℕ, ℤ}
pub use Rattle.std.proofs.lemmas.Nat.{mod_below, pow_pos}
pub use Rattle.std.specs.Prelude.{◌-ℤ◌, Err, IfOk, None, Ok, Result, if◌then◌else◌}
pub use Rattle.mcy_base.specs.declared.word.Word.{Word}
pub use Rattle.vlog_meaning.proofs.Contexts.{are_paired, binary_fits, context_sized, own_context, unary_fits, wider, window_fits}
pub use Rattle.vlog_meaning.proofs.Results.{joined_step, left_at, no_at, parts_drop, right_at, total_parts, total_take, yes_at}
pub use Rattle.vlog_meaning.proofs.Whole.{element_whole, whole_call, whole_choice, whole_index, whole_indexed, whole_inner, whole_join, whole_name, whole_operand, whole_pair, whole_part, whole_times}
pub use Rattle.vlog_meaning.specs.Functions.{function_of}
pub use Rattle.vlog_meaning.specs.Integers.{bound_integer, clog2, extended, integer, natural, window}
pub use Rattle.vlog_meaning.specs.Scopes.{Names, Store, decl_low, decl_shape, decl_value, names_of, nothing, store_of}
pub use Rattle.vlog_meaning.specs.Senses.{IsContext, IsWhole, IsWholeCall, Sense, call_shape, call_value, constant_integer, index_of, joined, own, part_width, repeated, sense, senses, step, taken}
pub use Rattle.vlog_meaning.specs.Senses.{total_width}
pub use Rattle.vlog_meaning.specs.declared.scope.Decl.{Decl}
pub use Rattle.vlog_meaning.specs.declared.shapes.Shape.{Shape}
pub use Rattle.vlog_syntax.specs.declared.expr.Expr.{Expr}
pub use Rattle.vlog_syntax.specs.declared.operator.BinaryOperator.{BinaryOperator}
pub use Rattle.vlog_syntax.specs.declared.operator.UnaryOperator.{UnaryOperator}
pub use Rattle.tb_formulas.specs.Formulas.{FitsIn, Serves, fits_step, formula_value, signed, value_step}
pub use Rattle.tb_formulas.specs.Made.{Makes}
pub use Rattle.tb_formulas.specs.Signals.{HasSignal}
pub use Rattle.tb_formulas.specs.declared.formula.Formula.{Formula}
pub use Rattle.tb_formulas.specs.declared.formula.Formula.TheOpen.{Formula-F}
pub use Rattle.tb_formulas.specs.declared.formula.Formula.TheViews.{roll-Formula, the_lemmas}
pub use Rattle.tb_formulas.specs.declared.formula.Part.{Part}
