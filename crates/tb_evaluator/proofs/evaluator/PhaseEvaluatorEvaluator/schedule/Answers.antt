use Rattle.tb_evaluator.proofs.Common.{names_of, plan_at}
use Rattle.tb_machine.specs.declared.node.Part.TheVariants.{Itself}
use Rattle.tb_evaluator.proofs.Planning.{writing_plan}
use Rattle.tb_evaluator.proofs.evaluator.PhaseEvaluatorEvaluator.schedule.Goals as goal

pub schedule_planned-requires-clause-plan : goal.schedule_planned-requires-clause-plan
schedule_planned-requires-clause-plan c = (c.args.assignment.now, writing_plan (names_of c.args.self.now.scope.now) (plan_at c.args.self.now.plans.now c.args.number) Itself c.args.assignment.now c.in-Some.writing.now c.requires.known c.in-Some.ensures)

pub returns-in-Some-clause-scheduled : goal.returns-in-Some-clause-scheduled
returns-in-Some-clause-scheduled c = c.schedule_planned.ensures.scheduled c.args.assignment.now (writing_plan (names_of c.args.self.now.scope.now) (plan_at c.args.self.now.plans.now c.args.number) Itself c.args.assignment.now c.in-Some.writing.now c.requires.known c.in-Some.ensures)
