use Rattle.tb_evaluator.proofs.Common.{names_of, plan_at}
use Rattle.tb_evaluator.proofs.Planning.{writing_plan}
use Rattle.tb_evaluator.proofs.evaluator.PhaseEvaluatorEvaluator.assign.Goals as goal

pub assign_planned-requires-clause-plan : goal.assign_planned-requires-clause-plan
assign_planned-requires-clause-plan c = (c.args.assignment.now, writing_plan (names_of c.args.self.now.scope.now) (plan_at c.args.self.now.plans.now c.args.number) c.args.part c.args.assignment.now c.in-Some.writing.now c.requires.known c.in-Some.ensures)

pub returns-in-Some-clause-assigned : goal.returns-in-Some-clause-assigned
returns-in-Some-clause-assigned c = c.assign_planned.ensures.assigned c.args.assignment.now (writing_plan (names_of c.args.self.now.scope.now) (plan_at c.args.self.now.plans.now c.args.number) c.args.part c.args.assignment.now c.in-Some.writing.now c.requires.known c.in-Some.ensures)
