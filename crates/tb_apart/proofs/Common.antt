-- What several files here take from the specs of this crate and from the crates below.
pub use Rattle.std.proofs.Common.{[], ◌&&◌, ◌++◌, ◌-◌, ◌<◌, ◌||◌, ◌∙◌, ◌∷◌, ◌≡◌, ◌≤◌, ◌⊎◌, Bool, List, ap, arith, false, get_or, inl, inr, length, map, nat_eq, nat_le, nat_lt, not, refl, subst, suc}
pub use Rattle.std.proofs.Common.{sym, take, true, zero, ℕ}
pub use Rattle.std.proofs.lemmas.Bool.{and_from, or_cases, or_left, or_right}
pub use Rattle.std.proofs.lemmas.List.{append-nil, take_all}
pub use Rattle.std.specs.List.{All, flat_map}
pub use Rattle.std.specs.Prelude.{◌+ℤ◌, None, Option, Some, if◌then◌else◌, negsuc, option_to_list, pos, slice_get, ℤ}
pub use Rattle.elab_proc.specs.Refusals.{AreSized, divisions, form_step, index_faults, same_form}
pub use Rattle.mcy_base.specs.declared.span.Span.{Span}
pub use Rattle.tb_checks.specs.Nets.{assign_faults, indices_faults, net_faults, net_wrong, part_indices}
pub use Rattle.tb_contents.specs.Nets.{item_nodes, nodes_of}
pub use Rattle.tb_faults.specs.declared.fault.BenchFault.{BenchFault}
pub use Rattle.tb_faults.specs.declared.fault.BenchFault.TheVariants.{TwoClocks, Unsupported, Wrong}
pub use Rattle.tb_items.specs.Assignments.{assignment_of}
pub use Rattle.tb_items.specs.declared.item.BenchItem.{BenchItem}
pub use Rattle.tb_nets.specs.Lefts.{left_writes, part_opens, parts_open}
pub use Rattle.tb_nets.specs.declared.node.NetNode.{NetNode}
pub use Rattle.tb_refusals.proofs.Firsts.{take_more}
unfoldable pub use Rattle.tb_writers.specs.Writes.{some_below}
pub use Rattle.tb_writers.specs.Writes.{bits_written, form_of, is_placed, is_told, meet_at, part_writes}
pub use Rattle.tb_writers.specs.declared.writers.Writer.TheVariants.{Net, Process}
pub use Rattle.vlog_effects.specs.Latches.{is_fixed, part_covers, parts_cover, stands_in}
pub use Rattle.vlog_effects.specs.LeftSides.{Bit, Indexed, Part, Range, Select, Vector, Whole, bits_from, concatenated, part_vector, parts_of, parts_step, places, select_base, select_width, vector_of}
pub use Rattle.vlog_meaning.specs.Scopes.{Names, decl_shape}
pub use Rattle.vlog_meaning.specs.Senses.{Bits, IsWhole, Sense, all_faults, assigned, constant_faults, fault, is_empty, name_bits, or_else, sense, senses}
pub use Rattle.vlog_meaning.specs.declared.fault.Fault.{Fault}
pub use Rattle.vlog_syntax.specs.declared.left_side.LeftSide.{LeftSide}
pub use Rattle.vlog_syntax.specs.declared.stmt.Assignment.{Assignment}
