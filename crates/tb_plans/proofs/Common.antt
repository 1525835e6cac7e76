-- What several files here take from the specs of this crate and from the crates below.
pub use Rattle.std.proofs.Common.{[], ◌%◌, ◌++◌, ◌+◌, ◌/◌, ◌<◌, ◌^◌, ◌∙◌, ◌∷◌, ◌≡◌, ◌≤◌, Bool, List, None, Option, Some, ap, arith, drop, false, get_or, length, map, refl, subst, suc, sym, take, true}
pub use Rattle.std.proofs.Common.{zero, ℕ}
pub use Rattle.std.proofs.Math.Nat.{mod-eq_of_lt}
pub use Rattle.std.proofs.lemmas.List.{length-map, take_all}
pub use Rattle.std.proofs.lemmas.Option.{IfSome_then, none-some, same_Some}
pub use Rattle.std.specs.List.{All, AllZip, flat_map}
pub use Rattle.std.specs.Prelude.{◌==◌, ◌||◌, IfSome, if◌then◌else◌, not, slice_get, slice_index, slice_index_or, ℤ}
pub use Rattle.mcy_base.specs.declared.word.Word.{Word}
pub use Rattle.rand_pcg.specs.Lcg.{Lcg}
pub use Rattle.tb_assigns.specs.Pieces.{IsDrawn, clip_update, listed, vector_is, window_of}
pub use Rattle.tb_assigns.specs.Updates.{CanAssign, Window, base_drawn, index_drawn, some_bits, updates_of, window_drawn, window_update}
pub use Rattle.tb_choices.proofs.Labels.{flat_of_map, labels_whole_at, labels_within_at}
pub use Rattle.tb_formulas.proofs.Layers.{opened, valued}
pub use Rattle.tb_formulas.specs.Formulas.{FitsIn, formula_value}
pub use Rattle.tb_formulas.specs.declared.formula.Formula.{Formula}
pub use Rattle.tb_machine.specs.Known.{AllKnown, IsAnswered, IsKnown, Request}
pub use Rattle.tb_machine.specs.Nodes.{choice_labels}
pub use Rattle.tb_machine.specs.declared.node.Choice.{Choice}
pub use Rattle.tb_machine.specs.declared.node.Node.{Node}
pub use Rattle.tb_machine.specs.declared.update.Update.{Update}
pub use Rattle.vlog_effects.specs.LeftSides.{Bit, Indexed, Part, Range, Vector, Whole, part_vector, parts_of, select_width}
pub use Rattle.vlog_meaning.proofs.Contexts.{wider}
pub use Rattle.vlog_meaning.specs.Integers.{integer}
pub use Rattle.vlog_meaning.specs.Scopes.{Names, Store, names_of, store_of}
pub use Rattle.vlog_meaning.specs.Senses.{IsWhole, sense}
pub use Rattle.vlog_meaning.specs.declared.shapes.Shape.{Shape}
pub use Rattle.vlog_refusals.proofs.SizeLemmas.{common_within, within_at}
pub use Rattle.vlog_syntax.specs.declared.expr.Expr.{Expr}
pub use Rattle.tb_plans.specs.Making.{IsArmOf, IsItemArm, IsLabelOf, IsNetPlan, IsNodePlan, IsTargetOf, OfArm, context_is, parts_written}
pub use Rattle.tb_plans.specs.Selections.{ArmFits, IsSelectionOf, LabelFits, OfCondition, first_arm, one_agrees, selection_taken}
pub use Rattle.tb_plans.specs.Transfers.{IsTransferOf, TargetFits, TransferFits, target_updates, transfer_updates}
pub use Rattle.tb_plans.specs.Values.{IsValueOf, OfValue}
pub use Rattle.tb_plans.specs.declared.target.Target.{Target}
pub use Rattle.tb_plans.specs.declared.target.Target.TheVariants.{Filled}
pub use Rattle.tb_plans.specs.declared.transfer.Transfer.{Transfer}
