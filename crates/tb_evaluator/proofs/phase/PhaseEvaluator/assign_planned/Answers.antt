use Rattle.tb_evaluator.proofs.Common.{ap, names_of, World}
use Rattle.tb_evaluator.proofs.Planning.{writing_fits, planned_fit, assigned_by_plan, still_signals}
use Rattle.tb_evaluator.proofs.phase.PhaseEvaluator.assign_planned.Goals as goal

pub update_planned-requires : goal.update_planned-requires
update_planned-requires c = writing_fits (names_of c.args.self.now.scope.now) c.requires.plan.0 c.args.writing.now c.args.scene.now.widths c.requires.plan.1 c.requires.world

pub assign_some-requires : goal.assign_some-requires
assign_some-requires c = planned_fit (names_of c.args.self.now.scope.now) c.requires.plan.0 c.args.writing.now c.args.scene.now c.update_planned.new.scene _ c.requires.plan.1 c.requires.world c.in_ok-update.ensures

pub returns-clause-assigned : goal.returns-clause-assigned
returns-clause-assigned c = λ a of. assigned_by_plan (names_of c.args.self.now.scope.now) c.args.self.now.phase a c.args.writing.now c.args.scene.now c.update_planned.new.scene c.assign_some.new.scene _ of c.in_ok-update.ensures c.assign_some.ensures

pub returns-clause-world : goal.returns-clause-world
returns-clause-world c = still_signals (names_of c.args.self.now.scope.now) c.requires.plan.0 c.args.writing.now c.args.scene.now c.update_planned.new.scene c.assign_some.new.scene _ c.requires.plan.1 c.in_ok-update.ensures (ap (λ (w : World). w.widths) c.assign_some.ensures) c.requires.world
