-- What several files here take from the specs of this crate and from the crates below.
pub use Rattle.std.proofs.Common.{[], ◌%◌, ◌&&◌, ◌*◌, ◌++◌, ◌+ℤ◌, ◌+◌, ◌-ℤ◌, ◌-◌, ◌/◌, ◌<◌, ◌==◌, ◌^◌, ◌||◌, ◌∙◌, ◌∷◌, ◌≡◌, ◌≤◌, Bool, List, add-one, ap, append_assoc, arith, drop, false, get_or, inl}
pub use Rattle.std.proofs.Common.{inr, length, map, max, min, nat_eq, nat_le, nat_lt, neg_ℤ, negsuc, not, pos, refl, replicate, rules, subst, suc, sym, take, true, true≢false, zero, ℕ, ℤ}
pub use Rattle.std.proofs.Math.Nat.{add-mod_left, div-le_self, div-one, mod-eq_of_lt, mod-one, pow-suc, zero-div}
pub use Rattle.std.proofs.Math.Pow.{pow_mono}
pub use Rattle.std.proofs.lemmas.Bool.Decides.{leb_tells, nat_tests}
pub use Rattle.std.proofs.lemmas.Int.{ints}
pub use Rattle.std.proofs.lemmas.List.{append-nil, length-append, length-drop, length-map, length-replicate, map-append, take_all}
pub use Rattle.std.proofs.lemmas.Nat.{mod-pow-add, or_lt, pow-add, pow_pos, shl-shr, shr-shr, xor_lt}
pub use Rattle.std.proofs.lemmas.Result.{IfErr-weaker, IfOk-weaker}
pub use Rattle.std.specs.Prelude.{Err, IfOk, None, Ok, Option, Result, Some, bit_xor, if◌then◌else◌, int_lt, slice_index_or}
pub use Rattle.expr_plans.proofs.Indices.{base_indexed, base_unsigned, index_window}
pub use Rattle.expr_plans.proofs.Plans.{constant_value, plan_first, plan_sense}
pub use Rattle.expr_plans.specs.Kinds.{binary_kind, is_order, unary_kind}
pub use Rattle.expr_plans.specs.Made.{Made, Plan, all_cells, all_unsupported, base_features, binary_cells, call_unsupported, cell_of, cells_step, choice_cells, condition_cells, index_width, made}
pub use Rattle.expr_plans.specs.Made.{made_of, own_cells, pick_cells, plan, plan_step, plans, unary_cells, unsupported_step}
pub use Rattle.mcy_base.specs.declared.span.Span.{Span}
pub use Rattle.net_builder.proofs.Parts.{below_append, below_later, fresh_below, grown_cells, grown_nets, grows_again, grows_cell, grows_cell_more, grows_not, grows_not_more, length_fresh}
pub use Rattle.net_builder.proofs.Parts.{runs_before, shows, store_same, widths_push}
pub use Rattle.net_builder.specs.Building.{AllBelow, Building, Grows, HasSignals, IsSignal, PortsBelow, RunsIn, fresh_bits, signal, store, with_cell}
pub use Rattle.net_builder.specs.Refusals.{IsShort}
pub use Rattle.net_builder.specs.declared.error.ElabError.{ElabError}
pub use Rattle.netlist_core.proofs.Settles.{length-values, number-fits}
pub use Rattle.netlist_core.specs.Cells.{all_ones, cell_value, is_less, laid_at, odd_ones, shifted_down, signed_number, some_one, top_bit}
pub use Rattle.netlist_core.specs.Checked.{AllWide}
pub use Rattle.netlist_core.specs.Numbers.{number}
pub use Rattle.netlist_core.specs.Runs.{Nets, bit_value, values}
pub use Rattle.netlist_core.specs.Shapes.{HasWidths, shape_of, widths}
pub use Rattle.netlist_core.specs.declared.bit.Bit.{Bit}
pub use Rattle.netlist_core.specs.declared.bit.Bit.TheVariants.{Fixed, Net}
pub use Rattle.netlist_core.specs.declared.cell.CellKind.{CellKind}
pub use Rattle.netlist_core.specs.declared.cell.CellKind.TheVariants.{Add, And, Eq, Ge, Gt, Land, Le, Lnot, Lor, Lt, Mul, Mux, Ne, Neg, Not, Or, Pick, Put, Rand, Rnand, Rnor, Ror, Rxnor, Rxor, Shl}
pub use Rattle.netlist_core.specs.declared.cell.CellKind.TheVariants.{Shr, Sshr, Sub, Xnor, Xor}
pub use Rattle.vlog_meaning.proofs.Blanks.{left_nil, right_nil, these_nil}
pub use Rattle.vlog_meaning.proofs.Contexts.{context_sized, joint_left, joint_right, own_context, right_within}
pub use Rattle.vlog_meaning.proofs.Firsts.{least_none}
pub use Rattle.vlog_meaning.proofs.Refusals.{kept, least_empty, passed}
pub use Rattle.vlog_meaning.proofs.Signs.{extended_negative, extended_positive}
pub use Rattle.vlog_meaning.specs.Functions.{function_of}
pub use Rattle.vlog_meaning.specs.Integers.{bound_integer, extended, halved, integer, is_negative, low_bits, natural, parity, window}
pub use Rattle.vlog_meaning.specs.Operators.{ArePaired, IsSized, binary_value, digit, is_reduction, left_context, operand_context, pair_shape, result_width, right_context, sizing, unary_shape}
pub use Rattle.vlog_meaning.specs.Operators.{unary_value}
pub use Rattle.vlog_meaning.specs.Scopes.{Names, Store, decl_low, decl_shape, decl_value, names_of, nothing, store_of}
pub use Rattle.vlog_meaning.specs.Senses.{IsContext, IsWhole, Sense, all_signals, binary_features, binary_step, call_faults, call_shape, call_signals, call_value, constant_integer, fault}
pub use Rattle.vlog_meaning.specs.Senses.{index_features, index_of, is_division, is_empty, joined, own, part_width, repeated, sense, senses, step, taken, total_width}
pub use Rattle.vlog_meaning.specs.declared.bound.Bound.{Bound}
pub use Rattle.vlog_meaning.specs.declared.fault.Cause.TheVariants.{DivideByZero, DivideOrPower, IndexedBase}
pub use Rattle.vlog_meaning.specs.declared.fault.Fault.{Fault}
pub use Rattle.vlog_meaning.specs.declared.operator.Sizing.{Sizing}
pub use Rattle.vlog_meaning.specs.declared.scope.Decl.{Decl}
pub use Rattle.vlog_meaning.specs.declared.scope.Decl.TheVariants.{Constant, Signal}
pub use Rattle.vlog_meaning.specs.declared.shapes.Shape.{Shape}
pub use Rattle.vlog_syntax.specs.Places.{first_step, first_token}
pub use Rattle.vlog_syntax.specs.declared.expr.Expr.{Expr, out-Expr}
pub use Rattle.vlog_syntax.specs.declared.expr.Expr.TheOpen.{Expr-F}
pub use Rattle.vlog_syntax.specs.declared.expr.Expr.TheViews.{roll-Expr, size-Expr, the_lemmas}
pub use Rattle.vlog_syntax.specs.declared.identifier.Identifier.{Identifier}
pub use Rattle.vlog_syntax.specs.declared.identifier.Number.{Number}
pub use Rattle.vlog_syntax.specs.declared.operator.BinaryOperator.{BinaryOperator}
pub use Rattle.vlog_syntax.specs.declared.operator.UnaryOperator.{UnaryOperator}
pub use Rattle.elab_expr.specs.Evaluates.{Adds, Builds, Evaluates, Holds, TakesBits, takes_sign}
pub use Rattle.elab_expr.specs.Laid.{Laid, Layout, at_width, binary_cell, bit_of, bits_from, cell, index_bits, lay, lay_arms, lay_binary, lay_condition, lay_own, lay_parts, lay_select, lay_step}
pub use Rattle.elab_expr.specs.Laid.{lay_unary, layout, layout_step, layouts, mux_cell, name_bits, number_bits, reduced, showing, times, unary_cell, widened}
pub use Rattle.elab_expr.specs.Wiring.{ShapeOfBits, bit_or_0, fill_bit, last_bit, window_digit}
