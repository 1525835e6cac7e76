-- What several files here take from the specs of this crate and from the crates below.
pub use Rattle.std.proofs.Common.{[], ◌%◌, ◌&&◌, ◌++◌, ◌+◌, ◌-◌, ◌/◌, ◌<◌, ◌^◌, ◌||◌, ◌∙◌, ◌∷◌, ◌≡◌, ◌≢◌, ◌≤◌, ◌⊎◌, Bool, List, None, Option, Some, add-one, ap, arith, drop, false, get_or, inl, inr}
pub use Rattle.std.proofs.Common.{length, map, min, nat_eq, nat_lt, not, refl, rules, set, slice_get, subst, suc, sym, take, true, vec_len, zero, ℕ}
pub use Rattle.std.proofs.lemmas.Bool.{and_from, cases_Bool, cases_lt, or_cases, or_left, or_right}
pub use Rattle.std.proofs.lemmas.Bool.Decides.{eqb_tells, nat_tests}
pub use Rattle.std.specs.List.{All, Contains}
pub use Rattle.std.specs.Prelude.{if◌then◌else◌, slice_index_or}
pub use Rattle.net_order.specs.Orders.{AreInside, IsFirst, IsOnLoop, IsOrder, Reads, row_of}
pub use Rattle.signal_masks.proofs.Indexing.{after}
pub use Rattle.signal_masks.proofs.Placing.{fit_element, or_end, parted}
pub use Rattle.signal_masks.proofs.Sets.{any_default, bits_take}
pub use Rattle.signal_masks.specs.Masks.{bits_in, has_bit}
pub use Rattle.signal_masks.specs.declared.mask.Mask.{Mask}
pub use Rattle.vlog_effects.specs.LeftSides.{Bit, Indexed, Part, Range, Whole, concatenated, parts_of}
pub use Rattle.vlog_meaning.specs.Scopes.{Names, decl_shape, names_of}
pub use Rattle.vlog_meaning.specs.Senses.{Bits, is_empty, name_bits, sense}
pub use Rattle.tb_nets.specs.Lefts.{part_opens, parts_open}
pub use Rattle.tb_nets.specs.Nets.{IsSettled, IsSided, ReadsNode, Wiring, node_reads, node_writes, reads_of, signal_bits, wiring, writes_of}
pub use Rattle.tb_nets.specs.Writers.{AreWriters, AreWritersOf, IsGraph, all_sharing, rows_of, shares, sharing, some_writes, with_sharing, writes_in}
pub use Rattle.tb_nets.specs.declared.node.NetNode.{NetNode}
pub use Rattle.tb_nets.specs.declared.table.Writer.{Writer}
