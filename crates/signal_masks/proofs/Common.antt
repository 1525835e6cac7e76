-- What several files here take from the specs of this crate and from the crates below.
pub use Rattle.std.proofs.Common.{[], ◌%◌, ◌&&◌, ◌++◌, ◌+ℤ◌, ◌+◌, ◌-ℤ◌, ◌-◌, ◌<◌, ◌^◌, ◌||◌, ◌∙◌, ◌∷◌, ◌≡◌, ◌≤◌, Bool, List, add-one, ap, arith, false, get_or, length, map, max, min, nat_eq, nat_le}
pub use Rattle.std.proofs.Common.{nat_lt, negsuc, not, pos, refl, rules, subst, suc, sym, take, true, zero, ℕ, ℤ}
pub use Rattle.std.proofs.lemmas.Bool.Decides.{nat_tests}
pub use Rattle.std.specs.Prelude.{None, Option, Some, if◌then◌else◌, slice_set}
pub use Rattle.mcy_base.specs.declared.span.Span.{Span}
pub use Rattle.vlog_effects.proofs.Bools.{or-again}
pub use Rattle.vlog_effects.specs.Latches.{index_reads, is_fixed, part_covers, parts_cover, stands_in}
pub use Rattle.vlog_effects.specs.LeftSides.{Bit, Indexed, Part, Range, Select, Vector, Whole, bit_at, bits_from, concatenated, part_vector, parts_of, places, select_base, select_width, vector_of}
pub use Rattle.vlog_meaning.specs.Integers.{natural}
pub use Rattle.vlog_meaning.specs.Operators.{IsSized}
pub use Rattle.vlog_meaning.specs.Scopes.{Names, decl_low, decl_shape, names_of}
pub use Rattle.vlog_meaning.specs.Senses.{IsWhole, Sense, all_reads, constant_integer, is_among, is_empty, name_bits, part_bits, part_width, select_bits, sense, senses}
pub use Rattle.vlog_meaning.specs.declared.scope.Decl.{Decl}
pub use Rattle.vlog_syntax.specs.declared.expr.Expr.{Expr}
pub use Rattle.vlog_syntax.specs.declared.identifier.Identifier.{Identifier}
pub use Rattle.vlog_syntax.specs.declared.left_side.LeftSide.{LeftSide}
pub use Rattle.vlog_syntax.specs.declared.left_side.LeftSide.TheViews.{the_lemmas}
pub use Rattle.signal_masks.specs.Masks.{bits_in, has_bit}
pub use Rattle.signal_masks.specs.Parts.{AreFit, indices_read}
pub use Rattle.signal_masks.specs.declared.mask.Mask.{Mask}
