-- What several files here take from the specs of this crate and from the crates below.
pub use Rattle.std.proofs.Common.{[], ◌++◌, ◌+ℤ◌, ◌+◌, ◌-◌, ◌<◌, ◌^◌, ◌∙◌, ◌∷◌, ◌≡◌, ◌≤◌, ◌⊎◌, Bool, List, None, Option, Some, add-one, ap, append_assoc, arith, drop, drop-cons, false, get_or, inl}
pub use Rattle.std.proofs.Common.{inr, length, map, neg_ℤ, negsuc, pos, refl, rules, subst, suc, sym, take, true, zero, ℕ, ℤ}
pub use Rattle.std.proofs.lemmas.Grind.{flat_map-append}
pub use Rattle.std.proofs.lemmas.List.{append-nil, drop-drop, length-append, length-map, map-append, take_more}
pub use Rattle.std.specs.List.{Contains, flat_map}
pub use Rattle.std.specs.Prelude.{if◌then◌else◌, slice_get, slice_index_or}
pub use Rattle.elab_expr.specs.Expressions.{refusals}
pub use Rattle.elab_proc.specs.Refusals.{divisions, form_step, index_faults, same_form, wrong}
pub use Rattle.expr_plans.specs.Made.{Made, made, plan}
pub use Rattle.flat_runs.proofs.Signals.{are_apart, net_of, own_stays}
pub use Rattle.flat_runs.specs.Adding.{AddsItem, HasOwnNets, IsBit}
pub use Rattle.flat_runs.specs.Meanings.{Assign, Place}
pub use Rattle.flat_runs.specs.Parts.{AreJoints, StandsBelow, places_from, whole, with_joints}
pub use Rattle.mcy_base.specs.declared.span.Span.{Span}
pub use Rattle.net_builder.specs.Building.{AllBelow, Building, Grows, HasSignals, signal, with_joint}
pub use Rattle.net_builder.specs.Refusals.{IsShort}
pub use Rattle.net_builder.specs.declared.builder.Joint.{Joint}
pub use Rattle.netlist_core.specs.declared.bit.Bit.{Bit}
pub use Rattle.netlist_core.specs.declared.bit.Bit.TheVariants.{Fixed, Net}
pub use Rattle.vlog_effects.proofs.Writing.{length-bits_from}
pub use Rattle.vlog_effects.specs.Expressions.{width_of}
pub use Rattle.vlog_effects.specs.LeftSides.{Indexed, Part, Range, Select, Vector, Whole, bit_at, bits_from, concatenated, part_vector, parts_of, parts_step, places, select_base, select_width}
pub use Rattle.vlog_effects.specs.LeftSides.{vector_of}
pub use Rattle.vlog_meaning.proofs.Blanks.{left_nil, right_nil, these_nil, those_nil}
pub use Rattle.vlog_meaning.proofs.Firsts.{least_none}
pub use Rattle.vlog_meaning.proofs.Refusals.{kept, least_empty, pair_first, passed}
pub use Rattle.vlog_meaning.proofs.Whole.{whole_index, whole_indexed, whole_part}
unfoldable pub use Rattle.vlog_meaning.specs.Answers.{earlier, least}
pub use Rattle.vlog_meaning.specs.Integers.{bound_integer}
pub use Rattle.vlog_meaning.specs.Scopes.{Names, Store, decl_shape, names_of, nothing}
pub use Rattle.vlog_meaning.specs.Senses.{IsWhole, Sense, all_faults, constant_faults, constant_integer, fault, name_faults, or_else, sense, senses, total_width}
pub use Rattle.vlog_meaning.specs.declared.fault.Fault.{Fault}
pub use Rattle.vlog_meaning.specs.declared.shapes.Shape.{Shape}
pub use Rattle.vlog_syntax.specs.declared.expr.Expr.{Expr}
pub use Rattle.vlog_syntax.specs.declared.identifier.Identifier.{Identifier}
pub use Rattle.vlog_syntax.specs.declared.left_side.LeftSide.{LeftSide}
pub use Rattle.vlog_syntax.specs.declared.left_side.LeftSide.TheFolds.{fold-roll-LeftSide, ind-LeftSide, map-LeftSide}
pub use Rattle.vlog_syntax.specs.declared.left_side.LeftSide.TheOpen.{LeftSide-F}
pub use Rattle.vlog_syntax.specs.declared.left_side.LeftSide.TheViews.{roll-LeftSide}
pub use Rattle.flat_assigns.specs.Bits.{target_of, targets_of}
pub use Rattle.flat_assigns.specs.Built.{IsBuilt, IsJoinedTo, IsReady}
pub use Rattle.flat_assigns.specs.Forms.{Form, FormsHaveParts, form, form_parts, formed}
pub use Rattle.flat_assigns.specs.Parts.{AllInside, AllWithin, HasIndex, IsIndexed, IsInside, IsName, IsPart, IsPartOf, IsRange, IsScanned, IsWriter, bit_in, first_bits, kept_slices, listed, slice_of}
pub use Rattle.flat_assigns.specs.Parts.{slices_of, vector_in}
pub use Rattle.flat_assigns.specs.Seen.{HasSeen, IsMet, IsPassed, IsTaken, NetSet, has, places_of}
pub use Rattle.flat_assigns.specs.Sides.{Slice, all_places, constant_target, form_of, left_faults, left_places, left_width, own_slices, part_faults, part_form, part_slices, placed, slice_places}
pub use Rattle.flat_assigns.specs.Sides.{slices, target_faults, vector_slices}
pub use Rattle.flat_assigns.specs.Values.{right_cells, right_refusals, right_shape, right_value}
pub use Rattle.flat_assigns.specs.Writers.{IsFirstWritten, Target, bit_targets, targets}
pub use Rattle.flat_assigns.specs.declared.slice.Slice.{Slice as Kept}
