use Rattle.tb_evaluator.proofs.Common.{ap, names_of, World}
use Rattle.std.proofs.lemmas.Result.{IfOk-weaker}
use Rattle.tb_evaluator.proofs.Planning.{writing_fits, planned_fit, scheduled_by_plan, still_signals}
use Rattle.tb_evaluator.proofs.phase.PhaseEvaluator.schedule_planned.Goals as goal

pub update_planned-requires : goal.update_planned-requires
update_planned-requires c = writing_fits (names_of c.args.self.now.scope.now) c.requires.plan.0 c.args.writing.now c.args.scene.now.widths c.requires.plan.1 c.requires.world

pub schedule_some-requires : goal.schedule_some-requires
schedule_some-requires c = planned_fit (names_of c.args.self.now.scope.now) c.requires.plan.0 c.args.writing.now c.args.scene.now c.update_planned.new.scene _ c.requires.plan.1 c.requires.world c.in_ok-update.ensures

pub returns-clause-scheduled : goal.returns-clause-scheduled
returns-clause-scheduled c = λ a of. IfOk-weaker c.schedule_some.result _ _ (λ _ h. scheduled_by_plan (names_of c.args.self.now.scope.now) c.args.self.now.phase a c.args.writing.now c.args.scene.now c.update_planned.new.scene c.schedule_some.new.scene _ of c.in_ok-update.ensures h) c.schedule_some.ensures

pub returns-clause-world : goal.returns-clause-world
returns-clause-world c = IfOk-weaker c.schedule_some.result _ _ (λ _ h. still_signals (names_of c.args.self.now.scope.now) c.requires.plan.0 c.args.writing.now c.args.scene.now c.update_planned.new.scene c.schedule_some.new.scene _ c.requires.plan.1 c.in_ok-update.ensures (ap (λ (w : World). w.widths) h) c.requires.world) c.schedule_some.ensures
