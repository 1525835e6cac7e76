-- What several files here take from the specs of this crate and from the crates below.
pub use Rattle.std.proofs.Common.{[], ◌++◌, ◌+◌, ◌<◌, ◌∙◌, ◌∷◌, ◌≡◌, ◌≤◌, Bool, List, None, Option, Some, add-one, ap, arith, drop, false, get_or, length, map, refl, slice_index_or, subst, suc, sym}
pub use Rattle.std.proofs.Common.{take, true, zero, ℕ}
pub use Rattle.std.specs.List.{All, flat_map}
pub use Rattle.tb_machine.specs.Nodes.{choice_labels}
pub use Rattle.tb_machine.specs.declared.node.Choice.{Choice}
pub use Rattle.vlog_meaning.specs.Scopes.{Names, Store, names_of, store_of}
pub use Rattle.vlog_meaning.specs.declared.shapes.Shape.{Shape}
pub use Rattle.vlog_refusals.proofs.SizeLemmas.{all_whole, common_within, labels_widened, within_at, within_left, within_right}
pub use Rattle.vlog_refusals.specs.Cases.{AllWithin, common_size, widened}
pub use Rattle.vlog_syntax.specs.declared.expr.Expr.{Expr}
pub use Rattle.tb_choices.specs.Choices.{LabelsWhole, Matching, agrees, case_size, chosen, default_item, first_match, one_matches, or_default}
