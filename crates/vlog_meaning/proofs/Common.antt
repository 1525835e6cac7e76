-- What several files here take from the specs of this crate and from the crates below.
pub use Rattle.std.proofs.Common.{[], ◌%◌, ◌&&◌, ◌*◌, ◌++◌, ◌+◌, ◌-ℤ◌, ◌-◌, ◌/◌, ◌<◌, ◌==◌, ◌^◌, ◌||◌, ◌∙◌, ◌∷◌, ◌≡◌, ◌≤◌, Bool, List, add-one, ap, append_assoc, arith, cond, drop, false, get_or, inl}
pub use Rattle.std.proofs.Common.{inr, length, map, max, mul_assoc, nat_abs, nat_le, nat_lt, neg_ℤ, negsuc, pos, refl, rules, subst, suc, sym, take, tests, true, zero, ℕ, ℤ}
pub use Rattle.std.proofs.Math.Nat.{div-eq_of_lt, div-le_self, mod-eq_of_lt, mod-le, mod-lt, mul-le-mul_right, mul-mod_left, pow-suc, pow-zero}
pub use Rattle.std.proofs.Math.Pow.{mod-mod-pow, pow-lt, pow_mono}
pub use Rattle.std.proofs.lemmas.Bool.Decides.{eqb_tells, nat_tests}
pub use Rattle.std.proofs.lemmas.Nat.{and_mask, mod-pow-add, mod_below, mod_low, mul-mod_first, mul-mod_second, mul-pow, or_lt, pow-add, pow-mod, pow_pos, shl-shr, shl_whole, shr-shr, shr_high}
pub use Rattle.std.proofs.lemmas.Nat.{xor_lt}
pub use Rattle.std.proofs.lemmas.Nat.Bits.{same_from_bits_below}
pub use Rattle.std.specs.Cmp.Lexicographic.{bytes_decides, slice_cmp}
pub use Rattle.std.specs.Prelude.{◌≢◌, None, Option, Some, if◌then◌else◌, int_lt, int_rem, is_some, slice_get}
pub use Rattle.std.specs.Str.{bytes_eq}
pub use Rattle.mcy_base.specs.declared.span.Span.{Span}
pub use Rattle.mcy_base.specs.declared.word.Word.{Word}
pub use Rattle.vlog_syntax.specs.declared.expr.Expr.{Expr}
pub use Rattle.vlog_syntax.specs.declared.expr.Expr.TheFolds.{fold-roll-Expr, ind-Expr, map-Expr}
pub use Rattle.vlog_syntax.specs.declared.expr.Expr.TheOpen.{Expr-F}
pub use Rattle.vlog_syntax.specs.declared.expr.Expr.TheViews.{roll-Expr, the_lemmas}
pub use Rattle.vlog_syntax.specs.declared.identifier.Identifier.{Identifier}
pub use Rattle.vlog_syntax.specs.declared.identifier.Number.{Number}
pub use Rattle.vlog_syntax.specs.declared.operator.BinaryOperator.{BinaryOperator}
pub use Rattle.vlog_syntax.specs.declared.operator.UnaryOperator.{UnaryOperator}
unfoldable pub use Rattle.vlog_meaning.specs.Answers.{earlier, least}
pub use Rattle.vlog_meaning.specs.Answers.{least_at, precedes, rank}
pub use Rattle.vlog_meaning.specs.Fitting.{fits_width, fits_word}
pub use Rattle.vlog_meaning.specs.Functions.{function_of}
unfoldable pub use Rattle.vlog_meaning.specs.Integers.{clog2}
pub use Rattle.vlog_meaning.specs.Integers.{bound_integer, clog2_from, extended, halved, integer, is_negative, low_bits, natural, parity, window}
pub use Rattle.vlog_meaning.specs.Laws.{Agree, IsSettled, LastCounts, Restores, RestsOnReads, SignalsStay, WordsAreWithin}
pub use Rattle.vlog_meaning.specs.Literals.{IsLiteral}
pub use Rattle.vlog_meaning.specs.Operators.{ArePaired, IsSized, binary_value, bit, digit, divides_by_zero, is_reduction, joint, left_context, negative_power, operand_context, pair_shape}
pub use Rattle.vlog_meaning.specs.Operators.{result_width, right_context, sizing, unary_shape, unary_value}
pub use Rattle.vlog_meaning.specs.Scopes.{AreWithin, FitsSignals, FitsWidth, FitsWord, IsWithin, Names, Store, decl_low, decl_shape, decl_value, entry_of, names_of, nothing, store_of, with_name}
pub use Rattle.vlog_meaning.specs.Scopes.{word_bits}
pub use Rattle.vlog_meaning.specs.Senses.{AreWhole, Bits, IsContext, IsWhole, IsWholeCall, Sense, all_faults, all_features, all_reads, all_signals, all_zeros, binary_zeros, call_faults, call_shape}
pub use Rattle.vlog_meaning.specs.Senses.{call_signals, call_value, constant_faults, constant_faults_at, constant_integer, counted, either, fault, index_features, index_of, is_among, joined}
pub use Rattle.vlog_meaning.specs.Senses.{name_bits, name_faults, name_signals, not_constant, or_else, own, own_zeros, part_bits, part_width, range_faults, repeated, select_bits, sense, senses, sized}
pub use Rattle.vlog_meaning.specs.Senses.{step, total_width, unsigned}
pub use Rattle.vlog_meaning.specs.declared.fault.Cause.TheVariants.{DivideByZero}
pub use Rattle.vlog_meaning.specs.declared.fault.Fault.{Fault}
pub use Rattle.vlog_meaning.specs.declared.function.Function.{Function}
pub use Rattle.vlog_meaning.specs.declared.function.Function.TheVariants.{Clog2, Random, Signed, Time, Unsigned}
pub use Rattle.vlog_meaning.specs.declared.operator.Sizing.{Sizing}
pub use Rattle.vlog_meaning.specs.declared.scope.Decl.{Decl}
pub use Rattle.vlog_meaning.specs.declared.scope.Decl.TheVariants.{Constant, Signal}
pub use Rattle.vlog_meaning.specs.declared.shapes.Shape.{Shape}
