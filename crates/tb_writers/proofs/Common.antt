-- What several files here take from the specs of this crate and from the crates below.
pub use Rattle.std.proofs.Common.{[], ◌&&◌, ◌++◌, ◌+◌, ◌-◌, ◌<◌, ◌^◌, ◌||◌, ◌∙◌, ◌∷◌, ◌≡◌, ◌≤◌, Bool, List, add-one, ap, append_assoc, arith, drop, false, get_or, length, map, nat_eq, nat_lt, not}
pub use Rattle.std.proofs.Common.{refl, set, slice_index_or, subst, suc, sym, take, true, zero, ℕ}
pub use Rattle.std.proofs.Math.Path.{fun_ext}
pub use Rattle.std.proofs.lemmas.Bool.Decides.{nat_tests}
pub use Rattle.std.proofs.lemmas.List.{append-nil, get_or-set_other, get_or-set_same}
pub use Rattle.std.proofs.lemmas.Result.{IfOk-weaker}
pub use Rattle.std.specs.Prelude.{None, Option, Some, option_to_list}
pub use Rattle.process_latches.proofs.Fitting.{fit_part, is_bit, is_indexed, is_name, is_range}
pub use Rattle.process_latches.specs.Marking.{IsPart}
pub use Rattle.signal_masks.specs.Masks.{bits_in, has_bit}
pub use Rattle.tb_faults.specs.Order.{IsFirst}
pub use Rattle.tb_faults.specs.declared.fault.BenchFault.{BenchFault}
pub use Rattle.vlog_effects.proofs.Bools.{and-right, or-left, or-right}
pub use Rattle.vlog_effects.specs.LeftSides.{Bit, Indexed, Part, Range, Vector, Whole, concatenated, part_vector, parts_of, places, vector_of}
pub use Rattle.vlog_meaning.specs.Scopes.{Names, names_of}
pub use Rattle.vlog_meaning.specs.Senses.{Bits, constant_faults, either, is_empty, no_bits, sense}
pub use Rattle.vlog_meaning.specs.declared.scope.Decl.{Decl}
pub use Rattle.vlog_syntax.specs.declared.left_side.LeftSide.{LeftSide}
pub use Rattle.tb_writers.specs.Views.{bits_of, mask_bits, written_of}
pub use Rattle.tb_writers.specs.Writers.{Written, fault_where, lefts_faults, nothing, part_faults, parts_faults, taken, whole_signal, with_bits, with_lefts, with_outputs, with_part, with_parts}
unfoldable pub use Rattle.tb_writers.specs.Writes.{some_below}
pub use Rattle.tb_writers.specs.Writes.{bits_written, is_constant, is_placed, is_told, meet_at, part_writes, untold_bits, whole_name}
pub use Rattle.tb_writers.specs.declared.writers.Writer.{Writer}
pub use Rattle.tb_writers.specs.declared.writers.Writer.TheVariants.{Net, Process}
