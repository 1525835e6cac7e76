use Rattle.tb_evaluator.proofs.Common.{names_of, plan_at}
use Rattle.tb_evaluator.proofs.Planning.{condition_plan, condition_holds}
use Rattle.tb_evaluator.proofs.evaluator.PhaseEvaluatorEvaluator.holds.Goals as goal

pub holds_planned-requires : goal.holds_planned-requires
holds_planned-requires c = (condition_plan (names_of c.args.self.now.scope.now) (plan_at c.args.self.now.plans.now c.args.number) c.args.condition.now c.in-Some.formula.now c.requires.known c.in-Some.ensures).fits c.args.scene.now.widths c.requires.world

pub returns-in-Some-clause-holds : goal.returns-in-Some-clause-holds
returns-in-Some-clause-holds c = condition_holds (names_of c.args.self.now.scope.now) c.args.self.now.phase c.args.condition.now c.in-Some.formula.now c.args.scene.now c.holds_planned.result (condition_plan (names_of c.args.self.now.scope.now) (plan_at c.args.self.now.plans.now c.args.number) c.args.condition.now c.in-Some.formula.now c.requires.known c.in-Some.ensures) c.holds_planned.ensures
