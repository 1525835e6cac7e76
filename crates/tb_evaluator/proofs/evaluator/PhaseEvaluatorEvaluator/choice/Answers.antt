use Rattle.tb_evaluator.proofs.Common.{map, names_of, choice_labels, plan_at}
use Rattle.tb_evaluator.proofs.Planning.{choice_plan, choice_taken}
use Rattle.tb_evaluator.proofs.evaluator.PhaseEvaluatorEvaluator.choice.Goals as goal

pub choice_planned-requires : goal.choice_planned-requires
choice_planned-requires c = (choice_plan (names_of c.args.self.now.scope.now) (plan_at c.args.self.now.plans.now c.args.number) c.args.kind c.args.selector.now (map choice_labels c.args.items.now) c.in-Some.selection.now c.requires.known c.in-Some.ensures).fits c.args.scene.now.widths c.requires.world

pub returns-in-Some-clause-choice : goal.returns-in-Some-clause-choice
returns-in-Some-clause-choice c = choice_taken (names_of c.args.self.now.scope.now) c.args.self.now.phase c.args.kind c.args.selector.now (map choice_labels c.args.items.now) c.in-Some.selection.now c.args.scene.now c.choice_planned.result (choice_plan (names_of c.args.self.now.scope.now) (plan_at c.args.self.now.plans.now c.args.number) c.args.kind c.args.selector.now (map choice_labels c.args.items.now) c.in-Some.selection.now c.requires.known c.in-Some.ensures) c.choice_planned.ensures
