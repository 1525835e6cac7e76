-- What several files here take from the specs of this crate and from the crates below.
pub use Rattle.std.proofs.Common.{[], ◌&&◌, ◌++◌, ◌+◌, ◌-◌, ◌/◌, ◌<◌, ◌^◌, ◌∙◌, ◌∷◌, ◌≡◌, ◌≤◌, Bool, List, None, Option, Some, add-one, ap, append-nil, append_assoc, arith, false, get_or, length, map}
pub use Rattle.std.proofs.Common.{min, refl, rules, subst, suc, sym, take, true, zero, ℕ}
pub use Rattle.std.proofs.Math.Nat.{mod-eq_of_lt, mod-lt}
pub use Rattle.std.proofs.lemmas.Int.{ints}
pub use Rattle.std.proofs.lemmas.List.{map-append}
pub use Rattle.std.proofs.lemmas.Nat.{pow_pos, shr-shr}
pub use Rattle.std.specs.Prelude.{◌+ℤ◌, ◌-ℤ◌, if◌then◌else◌, neg_ℤ, negsuc, pos, ℤ}
pub use Rattle.elab_proc.proofs.Lists.{parts_take}
pub use Rattle.elab_proc.specs.Refusals.{form_step, same_form}
pub use Rattle.rand_pcg.specs.Lcg.{Lcg}
pub use Rattle.tb_machine.specs.declared.update.Update.{Update}
pub use Rattle.tb_values.specs.Values.{evaluated}
pub use Rattle.vlog_effects.specs.LeftSides.{Bit, Indexed, Part, Range, Select, Vector, Whole, bit_at, concatenated, part_vector, parts_of, parts_step, parts_width, select_width, vector_of, width_by}
pub use Rattle.vlog_meaning.proofs.Powers.{no_bits_left, power_le}
pub use Rattle.vlog_meaning.specs.Integers.{bound_integer, integer, natural}
pub use Rattle.vlog_meaning.specs.Scopes.{Names, Store, decl_shape, names_of, store_of}
pub use Rattle.vlog_meaning.specs.Senses.{IsWhole, Sense, all_faults, assigned, is_empty, sense, senses, total_width}
pub use Rattle.vlog_syntax.specs.declared.expr.Expr.{Expr}
pub use Rattle.vlog_syntax.specs.declared.left_side.LeftSide.{LeftSide}
pub use Rattle.vlog_syntax.specs.declared.left_side.LeftSide.TheViews.{roll-LeftSide, the_lemmas}
pub use Rattle.tb_assigns.specs.Checks.{all_signals, can_assign, has_shape, is_signal}
pub use Rattle.tb_assigns.specs.Laws.{AreOfSignals, NameSignals, OutsideStays, UpdatesFit, WholeSidesSuffice}
pub use Rattle.tb_assigns.specs.Pieces.{AreDrawn, IsDrawn, listed, onto, vector_is, window_of, windows_of}
pub use Rattle.tb_assigns.specs.Updates.{AreParts, CanAssign, IsPart, Window, base_drawn, clipped, index_drawn, some_bits, total_size, updates_of, window_drawn, window_update, windows_drawn}
pub use Rattle.tb_assigns.specs.declared.piece.Piece.{Piece}
