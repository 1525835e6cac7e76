use Rattle.tb_evaluator.proofs.Common.{ap, names_of, store_of, Names, all_fit, HasSignals}
use Rattle.tb_evaluator.proofs.Evaluating.{still_served, updates_fit_scene}
use Rattle.tb_evaluator.proofs.phase.PhaseEvaluator.assign_unplanned.Goals as goal

pub assign_all-requires : goal.assign_all-requires
assign_all-requires c =
    let n : Names = names_of c.args.self.now.scope.now in
    let m : Names = names_of c.moment.result.scope.now in
    let served : HasSignals n c.set_words.new.self.widths = still_served n c.args.scene.now c.set_words.new.self c.updates.new.words c.set_words.ensures c.requires.world in
    updates_fit_scene n m c.set_words.new.self.widths c.in_ok-updates.updates.items c.as_slice.result.now _ c.updates.new.words (ap names_of c.moment.ensures.scope) c.as_slice.ensures.value c.in_ok-updates.ensures (all_fit m c.moment.result.phase c.args.assignment.now (store_of c.moment.result.store.now) c.in_ok-words.words) served
