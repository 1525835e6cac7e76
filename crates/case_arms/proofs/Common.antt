-- What several files here take from the specs of this crate and from the crates below.
pub use Rattle.std.proofs.Common.{[], ◌&&◌, ◌++◌, ◌+◌, ◌<◌, ◌^◌, ◌||◌, ◌∙◌, ◌∷◌, ◌≡◌, ◌≤◌, Bool, List, add-one, ap, arith, drop, false, get_or, length, map, nat_eq, nat_le, refl, rules, subst, suc}
pub use Rattle.std.proofs.Common.{sym, take, true, zero, ℕ}
pub use Rattle.std.specs.List.{flat_map}
pub use Rattle.std.specs.Option.{option_map}
pub use Rattle.std.specs.Prelude.{None, Option, Some, if◌then◌else◌, not}
pub use Rattle.elab_proc.proofs.CaseLemmas.{common_within, each_whole, labels_nil, labels_within, labels_within_at, within_at}
pub use Rattle.elab_proc.proofs.StepLemmas.{default_here, default_labelled, labels_same}
pub use Rattle.elab_proc.specs.Refusals.{common_size, labels_in, wrong}
pub use Rattle.vlog_effects.specs.Laws.{item_steps}
pub use Rattle.vlog_effects.specs.Steps.{Arm, Arms, InNames, Item, Otherwise, Selection, Steps, all_named, all_signed, always, arms_of, chosen_arms, default_of, done_by, dont_care, front, greatest}
pub use Rattle.vlog_effects.specs.Steps.{is_named, item_of, labelled, labels_of, last_body, names_all, selection_of, selector_bits, step_of, steps_of}
pub use Rattle.vlog_meaning.specs.Scopes.{Names, names_of, nothing}
pub use Rattle.vlog_meaning.specs.Senses.{is_empty, sense}
pub use Rattle.vlog_meaning.specs.declared.shapes.Shape.{Shape}
pub use Rattle.vlog_syntax.specs.declared.expr.Expr.{Expr}
pub use Rattle.vlog_syntax.specs.declared.stmt.CaseItem.{CaseItem, out-CaseItem}
pub use Rattle.case_arms.specs.Arms.{IsFirstFree, NoneFree, arms_with, arms_within, item_body, labels_at}
pub use Rattle.case_arms.specs.Naming.{IsOf, has, has_all}
