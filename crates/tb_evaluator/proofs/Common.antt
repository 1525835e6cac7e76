-- What several files here take from the specs of this crate and from the crates below.
pub use Rattle.std.proofs.Common.{[], ◌+◌, ◌<◌, ◌==◌, ◌^◌, ◌∙◌, ◌∷◌, ◌≡◌, ◌≤◌, Bool, List, None, Option, Some, ap, arith, map, not, refl, slice_get, slice_index, subst, suc, sym, zero, ℕ}
pub use Rattle.std.proofs.lemmas.List.Elements.{All-cons, All-map, All-nil}
pub use Rattle.std.specs.List.{All}
pub use Rattle.rand_pcg.specs.Lcg.{Lcg}
pub use Rattle.tb_assigns.proofs.Fitting.{all_fit}
pub use Rattle.tb_assigns.specs.Laws.{AreOfSignals, IsOfSignal}
pub use Rattle.tb_choices.specs.Choices.{LabelsWhole, chosen}
pub use Rattle.tb_formulas.specs.Formulas.{formula_value}
pub use Rattle.tb_machine.specs.Known.{AreKnown, Assign, Choose, Test}
pub use Rattle.tb_machine.specs.Nodes.{choice_labels}
pub use Rattle.tb_machine.specs.Worlds.{Fits, World, assigned, scheduled}
pub use Rattle.tb_machine.specs.declared.update.Update.{Update}
pub use Rattle.tb_plans.specs.Plans.{choice_in, condition_in, plan_at, writing_in}
pub use Rattle.tb_values.specs.Values.{condition, turns}
pub use Rattle.vlog_meaning.specs.Scopes.{FitsSignals, FitsWidth, FitsWord, Names, Store, names_of, store_of, word_bits}
pub use Rattle.tb_evaluator.specs.Meanings.{CanAnswer, HasSignal, HasSignals, in_world, meaning, store_in}
