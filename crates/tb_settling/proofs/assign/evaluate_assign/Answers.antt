use Rattle.tb_settling.proofs.Common.{List, refl, ap, ◌∙◌, slice_index, Lcg, Names, Store, names_of, store_of, Update, assigned, all_fit, signals_fit, same_store}
use Rattle.tb_assigns.specs.Updates.{updates}
use Rattle.tb_evaluator.proofs.Evaluating.{updates_fit_scene}
use Rattle.tb_settling.proofs.Sides.{sides_can}
use Rattle.tb_settling.proofs.assign.evaluate_assign.Goals as goal

pub updates-requires-clause-can : goal.updates-requires-clause-can
updates-requires-clause-can c = sides_can (names_of c.args.scope.now) c.args.assignment.now c.requires.can

pub updates-requires-clause-stored : goal.updates-requires-clause-stored
updates-requires-clause-stored c = signals_fit (names_of c.args.scope.now) c.store.result.now c.args.scene.now.widths c.store.ensures.widths c.requires.signals

pub assign_all-requires : goal.assign_all-requires
assign_all-requires c =
    let n : Names = names_of c.args.scope.now in
    updates_fit_scene n n c.args.scene.now.widths c.in_ok-found.found.items c.as_slice.result.now _ c.updates.new.words refl c.as_slice.ensures.value c.in_ok-found.ensures (all_fit n c.args.phase c.args.assignment.now (store_of c.store.result.now) c.new-words.result) c.requires.signals

pub returns : goal.returns
returns c =
    let n : Names = names_of c.args.scope.now in
    let first : List Update × Lcg → List Update = λ r. r.0 in
    c.assign_all.ensures
    ∙ ap (assigned c.args.scene.now)
    (c.as_slice.ensures.value
    ∙ ap first c.in_ok-found.ensures
    ∙ ap (λ (s : Store). (updates n c.args.phase c.args.assignment.now s c.new-words.result).0) (same_store c.store.result.now c.args.scene.now c.store.ensures.values)
    ∙ ap (λ (g : Lcg). (updates n c.args.phase c.args.assignment.now (λ k. slice_index c.args.scene.now.store k) g).0) c.new-words.ensures)
